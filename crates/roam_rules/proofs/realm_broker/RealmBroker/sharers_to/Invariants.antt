use Rattle.std.proofs.Common.{◌≡◌, ◌≤◌, ◌*◌}
use Rattle.roam_rules.specs.Private.Sharing.{held_below, is_sharer, sum_below}
use Rattle.roam_realm.specs.RealmConfig.{server_link}
use Rattle.roam_rules.specs.RealmTurn.{entries}
use Rattle.roam_rules.proofs.realm_broker.RealmBroker.sharers_to.Given as goal

-- those of the ways that were looked at
abbrev pub invariant-loop-out : goal.invariant-loop-out
invariant-loop-out g l =
    (l.count ≡ sum_below l.out (λ out.
    held_below 256 (is_sharer l.sharer) l.replaced (server_link l.service l.server out)
    (entries g.E.Entries l.self)))
    × (l.count ≤ 256 * l.out)
