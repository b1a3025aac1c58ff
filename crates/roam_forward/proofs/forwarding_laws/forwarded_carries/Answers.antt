use Rattle.roam_wire.proofs.LawLemmas.{ReadsAs-packet_text}
use Rattle.roam_forward.specs.Forwarded.{forwarded}
use Rattle.roam_forward.proofs.LawLemmas.{IsPacket-forwarded_any}
use Rattle.roam_forward.proofs.CarriedLemmas.{access_carries, others_carried}
use Rattle.roam_forward.proofs.forwarding_laws.forwarded_carries.Goals as goal

pub returns-clause-reads : goal.returns-clause-reads
returns-clause-reads c = λ f request id packet can sixteen.
    ReadsAs-packet_text (forwarded f request) (IsPacket-forwarded_any f request id packet can sixteen)

pub returns-clause-access : goal.returns-clause-access
returns-clause-access c = access_carries

pub returns-clause-others : goal.returns-clause-others
returns-clause-others c = others_carried
