use Rattle.std.proofs.Common.{◌≡◌, List, ℕ, length, take, drop, ◌-◌, arith, map}
use Rattle.roam_wire.specs.Packet.{Attribute}
use Rattle.roam_wire.specs.Reading.{packet_of}
use Rattle.roam_crypto.specs.HidingKeys.{password_key}
use Rattle.roam_crypto.specs.PacketAnew.{attribute_anew}
use Rattle.roam_crypto.proofs.PacketAnewLemmas.{attributes_there, attributes_written}
use Rattle.roam_crypto.proofs.packet_values.rehide_packet.Goals as goal

pub rehide_attributes-requires : goal.rehide_attributes-requires
rehide_attributes-requires c = (
  (packet_of c.args.octets.now).attributes,
  attributes_there c.args.octets.now c.requires.packet,
  c.requires.can_be,
)

pub returns : goal.returns
returns c =
    let octets : List ℕ = c.args.octets.now in
    let all : List Attribute = (packet_of octets).attributes in
    let made = c.rehide_attributes.ensures all (attributes_there octets c.requires.packet) c.requires.can_be in
    let same : length c.rehide_attributes.new.octets ≡ length (take (length octets - 20) (drop 20 octets)) =
    omega arith in
    attributes_written octets c.rehide_attributes.new.octets
    (map (attribute_anew c.args.hidden (password_key c.args.from) (password_key c.args.to)) all)
    c.requires.packet made same
