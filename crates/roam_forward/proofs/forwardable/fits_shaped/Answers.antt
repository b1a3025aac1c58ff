use Rattle.std.proofs.Common.{◌≤◌, ap, arith, length, refl}
use Rattle.roam_wire.proofs.LawLemmas.{length-packet_text}
use Rattle.roam_forward.specs.Forwarded.{forwarded_length}
use Rattle.roam_forward.specs.Shaped.{shaped, shown_shaping}
use Rattle.roam_forward.proofs.ShortLemmas.{forwarded-short}
use Rattle.roam_forward.proofs.forwardable.fits_shaped.Goals as goal

-- what is added has the room
pub returns-then-octets-le-MAX_PACKET_LENGTH : goal.returns-then-octets-le-MAX_PACKET_LENGTH
returns-then-octets-le-MAX_PACKET_LENGTH c =
    let s = shown_shaping c.args.shaping.now in
    let request = c.args.request.now in
    let packet = c.octets.ensures.packet in
    let size = ap length c.octets.ensures.text in
    let spelt = length-packet_text request packet in
    let short = forwarded-short s request c.requires.name packet in
    let fits : forwarded_length (shaped s request) ≤ 4096 =
    omega (arith, size, spelt, short, c.if-octets-le-MAX_PACKET_LENGTH.true) in
    (λ _. fits, λ _. refl)
