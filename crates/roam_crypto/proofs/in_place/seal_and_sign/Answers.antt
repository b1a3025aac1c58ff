use Rattle.std.proofs.Common.{◌≡◌, ◌∙◌, ap, List, ℕ}
use Rattle.roam_wire.specs.Packet.{Packet, packet_text}
use Rattle.roam_wire.specs.Reading.{packet_of}
use Rattle.roam_crypto.specs.Authenticators.{signed_reply}
use Rattle.roam_crypto.specs.MessageAuthenticator.{with_message_authenticator}
use Rattle.roam_crypto.proofs.SignedLemmas.{IsPacketText-sealed, packet_of-sealed}
use Rattle.roam_crypto.proofs.in_place.seal_and_sign.Goals as goal

-- what was sealed is still a packet's octets
pub sign_reply-requires-clause-packet : goal.sign_reply-requires-clause-packet
sign_reply-requires-clause-packet c =
    rw c.seal.ensures (IsPacketText-sealed c.args.secret.now c.args.request_authenticator
    (packet_of c.args.octets.now) c.requires.at_most_one c.requires.packet.packet)

-- and it is the sealed packet that is signed
pub returns : goal.returns
returns c =
    let p : Packet = packet_of c.args.octets.now in
    let sealed : packet_of c.seal.new.octets
    ≡ with_message_authenticator c.args.secret.now c.args.request_authenticator p =
    packet_of-sealed c.args.secret.now c.args.request_authenticator c.seal.new.octets p c.requires.at_most_one
    c.requires.packet.packet c.seal.ensures in
    c.sign_reply.ensures
    ∙ ap (λ (s : List ℕ). packet_text (signed_reply s c.args.request_authenticator (packet_of c.seal.new.octets)))
    c.octets.ensures ∙ ap (λ (q : Packet). packet_text
    (signed_reply c.args.secret.now c.args.request_authenticator q)) sealed
