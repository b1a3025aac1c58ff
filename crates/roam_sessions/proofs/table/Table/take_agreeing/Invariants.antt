use Rattle.std.proofs.Common.{◌≡◌, ◌≤◌}
use Rattle.roam_sessions.specs.Ended.{IsTable, open_sessions}
use Rattle.roam_sessions.specs.Kept.{shown_asked}
use Rattle.roam_sessions.specs.Sessions.{without_agreeing}
use Rattle.roam_sessions.specs.Stands.{session_count}
use Rattle.roam_sessions.proofs.table.Table.take_agreeing.Given as goal

-- some of those that agree are gone, and no other ones
abbrev pub invariant-loop-ticket : goal.invariant-loop-ticket
invariant-loop-ticket g l = record {
  sound : IsTable l.self;
  spare : l.self.chain.spare ≡ l.fn.self.chain.spare;
  count : session_count l.self.chain ≤ session_count l.fn.self.chain;
  asked : l.asked ≡ l.fn.asked;
  rest : without_agreeing (shown_asked l.fn.asked) (open_sessions l.self)
      ≡ without_agreeing (shown_asked l.fn.asked) (open_sessions l.fn.self);
}

abbrev pub decreases-loop-ticket : goal.decreases-loop-ticket
decreases-loop-ticket g l = session_count l.self.chain
