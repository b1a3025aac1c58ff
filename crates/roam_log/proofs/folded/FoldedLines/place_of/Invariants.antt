use Rattle.std.proofs.Common.{ℕ, ◌<◌, slice_index_or}
use Rattle.roam_log.specs.declared.exchange.Exchange.{Exchange}
use Rattle.roam_log.specs.Folded.{IsAlike}
use Rattle.roam_log.proofs.folded.FoldedLines.place_of.Given as goal

-- the lines so far are of other requests
abbrev pub invariant-loop-i : goal.invariant-loop-i
invariant-loop-i l = (k : ℕ) (d : Exchange) → k < l.i → ¬ (IsAlike (slice_index_or l.line-items k d) l.exchange)
