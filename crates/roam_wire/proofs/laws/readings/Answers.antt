use Rattle.roam_wire.proofs.LawLemmas.{reading_is_right, ReadsAs-packet_text}
use Rattle.roam_wire.proofs.laws.readings.Goals as goal

pub returns : goal.returns
returns c = record { right = reading_is_right; own = ReadsAs-packet_text }
