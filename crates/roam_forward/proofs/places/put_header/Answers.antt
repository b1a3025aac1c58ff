use Rattle.std.proofs.Common.{arith}
use Rattle.roam_forward.proofs.places.put_header.Goals as goal

-- what a slice of octets holds is octets
pub returns-clause-octets : goal.returns-clause-octets
returns-clause-octets c = λ i. omega (arith, c.type_inv.octets i)
