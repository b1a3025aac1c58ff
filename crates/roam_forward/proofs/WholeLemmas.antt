-- What passes where no list names an attribute: all.
use Rattle.std.proofs.Common.{◌≡◌, List, [], drop, ap, ◌∙◌}
use Rattle.std.proofs.lemmas.List.{drop_at}
use Rattle.roam_wire.specs.Packet.{Attribute, Packet, IsPacket, attributes_text, packet_text}
use Rattle.roam_wire.specs.declared.removed_attribute.RemovedAttribute.{RemovedAttribute}
use Rattle.roam_forward.specs.Without.{without}
use Rattle.roam_forward.proofs.WithoutLemmas.{without-none}

-- behind the header stand the attributes
pub behind_header : (p : Packet) → IsPacket p → drop 20 (packet_text p) ≡ attributes_text p.attributes
behind_header p h = drop_at p.authenticator (attributes_text p.attributes) 16 h.authenticator

pub all_text : (removed : List RemovedAttribute) (all : List Attribute) → removed ≡ [] →
    attributes_text (without removed all) ≡ attributes_text all
all_text removed all none =
    ap (λ (r : List RemovedAttribute). attributes_text (without r all)) none ∙ ap attributes_text (without-none all)
