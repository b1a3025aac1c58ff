use Rattle.std.proofs.Common.{◌≡◌, ◌+◌, ◌≤◌, drop, length}
use Rattle.roam_realm.specs.ServerOrder.{places_of}
use Rattle.roam_realm.proofs.realm_settings.RealmSettings.service_count.Given as goal

-- those of the servers that were passed are counted
abbrev pub invariant-loop-server : goal.invariant-loop-server
invariant-loop-server l =
    (l.count + length (places_of l.service l.server (drop l.server l.self.realm.servers))
    ≡ length (places_of l.service 0 l.self.realm.servers)) × (l.count ≤ l.server)
