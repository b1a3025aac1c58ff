use Rattle.std.proofs.Common.{arith}
use Rattle.roam_forward.proofs.added.are_octets.Goals as goal

pub returns : goal.returns
returns c = λ i. omega (arith, c.type_inv.name i)
