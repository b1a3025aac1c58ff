use Rattle.roam_wire.proofs.LawLemmas.{packet_of-packet_text, IsPacketText-packet_text, length-packet_text, AreOctets-packet_text}
use Rattle.roam_wire.proofs.laws.packet_octets.Goals as goal

pub returns : goal.returns
returns c = record {
  again = packet_of-packet_text;
  packet = IsPacketText-packet_text;
  length = length-packet_text;
  octets = AreOctets-packet_text;
}
