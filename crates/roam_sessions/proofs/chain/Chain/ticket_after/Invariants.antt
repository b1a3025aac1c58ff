use Rattle.std.proofs.Common.{◌-◌, ◌≤◌, length}
use Rattle.roam_wire.specs.Numbered.{listed}
use Rattle.roam_sessions.specs.Stands.{session_at}
use Rattle.roam_sessions.proofs.chain.Chain.ticket_after.Given as goal

-- so many are before one of these tickets
abbrev pub invariant-loop-least : goal.invariant-loop-least
invariant-loop-least g l = record {
  order : l.least ≤ l.most;
  given : l.most ≤ l.self.next;
  below : length (listed (session_at l.self) 0 l.least) ≤ l.count;
  above : l.count ≤ length (listed (session_at l.self) 0 l.most);
}

abbrev pub decreases-loop-least : goal.decreases-loop-least
decreases-loop-least g l = l.most - l.least
