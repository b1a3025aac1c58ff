use Rattle.std.proofs.Common.{◌≡◌, ◌∙◌, ap, subst, refl, IsSome, Some}
use Rattle.roam_wire.specs.Packet.{Packet, IsPacket}
use Rattle.roam_wire.specs.Reading.{packet_of, attributes_of}
use Rattle.std.proofs.lemmas.Option.{same_Some}
use Rattle.roam_wire.proofs.PacketLemmas.{attributes_of-octets, length-attributes}
use Rattle.roam_wire.proofs.view.View.attributes.Goals as goal

-- a packet's octets are attributes behind the header
pub over-requires : goal.over-requires
over-requires c =
    let some : IsSome (attributes_of c.behind_header.result.now) =
    rw (c.behind_header.ensures, attributes_of-octets c.self.inside.octets.now c.self.invariant) refl in
    some

-- and these are the packet's
pub returns-clause-all : goal.returns-clause-all
returns-clause-all c =
    let found : attributes_of c.behind_header.result.now ≡ Some (packet_of c.self.inside.octets.now).attributes =
    rw c.behind_header.ensures (attributes_of-octets c.self.inside.octets.now c.self.invariant) in
    same_Some _ _ (c.over.ensures ∙ found) ∙ ap (λ (p : Packet). p.attributes) c.self.view_is

-- a packet has few
pub returns-clause-few : goal.returns-clause-few
returns-clause-few c =
    let all = returns-clause-all c in
    let packet = subst IsPacket c.self.view_is c.self.invariant.packet in
    rw all (length-attributes c.args.self.now packet)
