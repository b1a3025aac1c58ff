use Rattle.roam_wire.proofs.LawLemmas.{ReadsAs-packet_text}
use Rattle.roam_reply.specs.Nak.{nak}
use Rattle.roam_reply.proofs.NakLemmas.{IsPacket-nak, nak_length-is, nak_length-at_most}
use Rattle.roam_reply.proofs.laws.nak_reads.Goals as goal

pub returns-clause-packet : goal.returns-clause-packet
returns-clause-packet c = IsPacket-nak

pub returns-clause-reads : goal.returns-clause-reads
returns-clause-reads c = λ secret cause request h.
    ReadsAs-packet_text (nak secret cause request) (IsPacket-nak secret cause request h)

pub returns-clause-length : goal.returns-clause-length
returns-clause-length c = nak_length-is

pub returns-clause-short : goal.returns-clause-short
returns-clause-short c = nak_length-at_most
