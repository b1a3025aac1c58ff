use Rattle.std.proofs.Common.{◌≡◌, ◌≤◌, ◌*◌, length}
use Rattle.roam_rules.specs.Private.Sharing.{held_below, is_sharer, sum_below}
use Rattle.roam_realm.specs.RealmConfig.{server_link}
use Rattle.roam_rules.specs.RealmTurn.{entries}
use Rattle.roam_rules.proofs.realm_broker.RealmBroker.sharers_for.Given as goal

-- those of the servers that were looked at
abbrev pub invariant-loop-server : goal.invariant-loop-server
invariant-loop-server g l =
    (l.count ≡ sum_below l.server (λ server. sum_below (length l.self.settings.now.realm.out) (λ out.
    held_below 256 (is_sharer l.sharer) l.replaced (server_link l.service server out)
    (entries g.E.Entries l.self))))
    × (l.count ≤ 4096 * l.server)
