use Rattle.std.proofs.Common.{arith}
use Rattle.roam_sessions.proofs.table.Table.len.Goals as goal

pub returns : goal.returns
returns g c = λ sound. omega (arith, c.len.ensures, sound.left)
