use Rattle.std.proofs.Common.{ℕ, ◌<◌, ◌≤◌, length, get_or}
use Rattle.roam_sessions.proofs.newest.last_below.Given as goal

-- those behind come no earlier
abbrev pub invariant-loop-index : goal.invariant-loop-index
invariant-loop-index l = record {
  within : l.index ≤ length l.tickets;
  behind : (k : ℕ) → l.index ≤ k → k < length l.tickets → l.end ≤ get_or l.tickets k 0;
}

abbrev pub decreases-loop-index : goal.decreases-loop-index
decreases-loop-index l = l.index
