use Rattle.std.proofs.Common.{◌≡◌, ◌+◌, length, arith}
use Rattle.roam_wire.specs.Building.{with_attribute}
use Rattle.roam_wire.proofs.BuildingLemmas.{AreTextOf, attribute_appended}
use Rattle.roam_wire.proofs.packet_buf.PacketBuf.push_attr.Given.{Over}
use Rattle.roam_wire.proofs.packet_buf.PacketBuf.push_attr.Goals as goal

-- the octets with the attribute behind them and the Length written anew
whole : (g : Over) (c : goal.After-write_length g) →
    AreTextOf (with_attribute c.args.kind c.args.value.now c.args.self.now) c.write_length.new.octets.items
whole g c =
    let size : c.len.result + 2 + length c.args.value.now
    ≡ length c.self.inside.octets.items + 2 + length c.args.value.now = omega arith in
    rw (c.write_length.ensures, c.in_ok-push_attribute.ensures.ok, ← c.self.view_is)
    (attribute_appended c.args.kind c.args.value.now c.self.inside.octets.items _ c.self.invariant
    (omega (arith, c.ranges.kind)) (λ i. omega (arith, c.type_inv.value i)) (omega arith) size (omega arith))

pub invariant_of-self-2 : goal.invariant_of-self-2
invariant_of-self-2 g c = (whole g c).text

pub returns-clause-ok : goal.returns-clause-ok
returns-clause-ok g c = (whole g c).packet
