use Rattle.std.proofs.Common.{◌≡◌, ◌≤◌}
use Rattle.roam_sessions.specs.Ended.{IsTable, open_sessions}
use Rattle.roam_sessions.specs.Stands.{session_count}
use Rattle.roam_sessions.proofs.table.Table.free_all.Given as goal

abbrev pub invariant-loop-self : goal.invariant-loop-self
invariant-loop-self g l = record {
  sound : IsTable l.self;
  sessions : open_sessions l.self ≡ open_sessions l.fn.self;
  count : session_count l.self.chain ≤ session_count l.fn.self.chain;
  spare : l.self.chain.spare ≡ l.fn.self.chain.spare;
}

abbrev pub decreases-loop-self : goal.decreases-loop-self
decreases-loop-self g l = l.self.left
