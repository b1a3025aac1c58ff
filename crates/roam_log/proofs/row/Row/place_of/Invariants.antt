use Rattle.std.proofs.Common.{ℕ, ◌<◌, slice_index_or}
use Rattle.roam_log.specs.declared.tally.RefusalCount.{RefusalCount}
use Rattle.roam_log.specs.Tallies.{IsOfKind}
use Rattle.roam_log.proofs.row.Row.place_of.Given as goal

-- the tallies so far count other kinds
abbrev pub invariant-loop-i : goal.invariant-loop-i
invariant-loop-i l = (k : ℕ) (d : RefusalCount) → k < l.i → ¬ (IsOfKind l.kind (slice_index_or l.tally-items k d))
