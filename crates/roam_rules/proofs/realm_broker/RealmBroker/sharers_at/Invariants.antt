use Rattle.std.proofs.Common.{◌≡◌, ◌≤◌}
use Rattle.roam_rules.specs.Private.Sharing.{held_below, is_sharer}
use Rattle.roam_rules.specs.RealmTurn.{entries}
use Rattle.roam_rules.proofs.realm_broker.RealmBroker.sharers_at.Given as goal

-- those that were looked at
abbrev pub invariant-loop-id : goal.invariant-loop-id
invariant-loop-id g l =
    (l.count ≡ held_below l.id (is_sharer l.sharer) l.replaced l.link (entries g.E.Entries l.self))
    × (l.count ≤ l.id)
