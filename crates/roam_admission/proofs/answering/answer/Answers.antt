use Rattle.std.proofs.Common.{◌≡◌, ◌∙◌, inr}
use Rattle.roam_wire.specs.Packet.{packet_text}
use Rattle.roam_wire.proofs.PacketLemmas.{IsPacketText-packet_text, packet_of-packet_text}
use Rattle.roam_admission.specs.LocalAnswer.{unsealed_answer}
use Rattle.roam_admission.proofs.AnswerLemmas.{one_seal, answered_text, answered_octets}
use Rattle.roam_admission.proofs.answering.answer.Goals as goal

-- what is sealed is a packet with one Message-Authenticator
pub seal_and_sign-requires-clause-packet : goal.seal_and_sign-requires-clause-packet
seal_and_sign-requires-clause-packet g c =
    let text : c.as_mut_slice.result.now ≡ packet_text (unsealed_answer c.args.code c.args.request.now) =
    c.as_mut_slice.ensures.value ∙ c.in_ok-octets.ensures.text in
    rw text (IsPacketText-packet_text (unsealed_answer c.args.code c.args.request.now) c.in_ok-octets.ensures.packet)

pub seal_and_sign-requires-clause-at_most_one : goal.seal_and_sign-requires-clause-at_most_one
seal_and_sign-requires-clause-at_most_one g c =
    let text : c.as_mut_slice.result.now ≡ packet_text (unsealed_answer c.args.code c.args.request.now) =
    c.as_mut_slice.ensures.value ∙ c.in_ok-octets.ensures.text in
    let p = packet_of-packet_text (unsealed_answer c.args.code c.args.request.now) c.in_ok-octets.ensures.packet in
    rw (text, p) (inr (one_seal c.args.code c.args.request.now))

-- and all of it is sealed and signed in its place
pub returns-clause-ok : goal.returns-clause-ok
returns-clause-ok g c =
    let request = c.args.request.now in
    let secret = c.args.secret.now in
    let packet = c.in_ok-octets.ensures.packet in
    let items = c.in_ok-octets.octets.items in
    let octets = c.seal_and_sign.new.octets in
    let slice = c.as_mut_slice.result.now in
    let size = c.in_ok-octets.octets.ok.0 in
    let is = answered_text c.args.code secret c.authenticator.result slice octets request packet
    c.authenticator.ensures (c.as_mut_slice.ensures.value ∙ c.in_ok-octets.ensures.text) c.seal_and_sign.ensures in
    answered_octets c.args.code secret c.from_vec.result items octets c.in_ok-octets.octets.len request packet size
    c.in_ok-octets.ensures.text is c.from_vec.ensures
