use Rattle.std.proofs.Common.{arith}
use Rattle.roam_wire.proofs.BuildingLemmas.{header_alone}
use Rattle.roam_wire.proofs.packet_buf.PacketBuf.start.Goals as goal

-- the octets of a header are those of a packet without attributes
pub invariant_of-result : goal.invariant_of-result
invariant_of-result g c =
    rw c.in_ok-octets.ensures ((header_alone c.args.code c.args.id c.args.authenticator.now
    (omega (arith, c.ranges.code)) (omega (arith, c.ranges.id)) c.fits-authenticator (omega arith)).text)

pub returns : goal.returns
returns g c =
    rw c.in_ok-octets.ensures ((header_alone c.args.code c.args.id c.args.authenticator.now
    (omega (arith, c.ranges.code)) (omega (arith, c.ranges.id)) c.fits-authenticator (omega arith)).packet)
