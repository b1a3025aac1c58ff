use Rattle.std.proofs.Common.{◌∙◌, arith}
use Rattle.roam_sessions.proofs.table.Table.free_some.Goals as goal

pub returns-clause-sessions : goal.returns-clause-sessions
returns-clause-sessions g c = c.free_one-2.ensures.sessions ∙ c.free_one.ensures.sessions

pub returns-clause-left : goal.returns-clause-left
returns-clause-left g c = omega (arith, c.free_one-2.ensures.left, c.free_one.ensures.left)

pub returns-clause-count : goal.returns-clause-count
returns-clause-count g c = omega (arith, c.free_one-2.ensures.count, c.free_one.ensures.count)

pub returns-clause-room : goal.returns-clause-room
returns-clause-room g c = c.free_one-2.ensures.room ∙ c.free_one.ensures.room
