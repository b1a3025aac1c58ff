use Rattle.roam_forward.proofs.LawLemmas.{IsPacket-forwarded_any, length-forwarded_any, IsWellSealed-forwarded_any}
use Rattle.roam_forward.proofs.forwarding_laws.forwarded_packet.Goals as goal

pub returns-clause-packet : goal.returns-clause-packet
returns-clause-packet c = IsPacket-forwarded_any

pub returns-clause-length : goal.returns-clause-length
returns-clause-length c = length-forwarded_any

pub returns-clause-well_sealed : goal.returns-clause-well_sealed
returns-clause-well_sealed c = IsWellSealed-forwarded_any
