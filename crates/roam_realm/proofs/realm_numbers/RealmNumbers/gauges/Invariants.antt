use Rattle.std.proofs.Common.{◌≡◌}
use Rattle.roam_realm.proofs.realm_numbers.RealmNumbers.gauges.Given as goal

-- what was counted before stays
abbrev pub invariant-loop-place : goal.invariant-loop-place
invariant-loop-place g l = (l.gauges.entries ≡ l.initial.gauges.entries)
    × (l.gauges.sessions ≡ l.initial.gauges.sessions)
