use Rattle.std.proofs.Common.{◌≡◌, drop}
use Rattle.std.specs.Prelude.{slice_get}
use Rattle.roam_realm.specs.ServerOrder.{places_of}
use Rattle.roam_realm.proofs.realm_settings.RealmSettings.nth_of_service.Given as goal

-- so many of those that weren't passed stand before it
abbrev pub invariant-loop-server : goal.invariant-loop-server
invariant-loop-server l =
    slice_get (places_of l.service l.server (drop l.server l.self.realm.servers)) l.before
    ≡ slice_get (places_of l.service 0 l.self.realm.servers) l.nth
