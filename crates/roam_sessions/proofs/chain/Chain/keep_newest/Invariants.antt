use Rattle.std.proofs.Common.{◌≡◌, ◌≤◌, ℕ}
use Rattle.roam_sessions.specs.Stands.{IsSound, session_at, session_count}
use Rattle.roam_sessions.proofs.chain.Chain.keep_newest.Given as goal

-- those that were opened later are there
abbrev pub invariant-loop-place : goal.invariant-loop-place
invariant-loop-place g l = record {
  sound : IsSound l.self;
  spare : l.self.spare ≡ l.fn.self.spare;
  later : (t : ℕ) → l.end ≤ t → session_at l.self t ≡ session_at l.fn.self t;
}

abbrev pub decreases-loop-place : goal.decreases-loop-place
decreases-loop-place g l = session_count l.self
