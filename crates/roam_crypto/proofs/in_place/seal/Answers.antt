use Rattle.std.proofs.Common.{◌≡◌, ◌+◌, ◌≤◌, ◌∙◌, ◌++◌, inl, inr, length, take, drop, subst, sym, ap, ℕ, List}
use Rattle.roam_wire.specs.Packet.{Packet, packet_text}
use Rattle.roam_wire.specs.Reading.{packet_of}
use Rattle.roam_crypto.specs.MessageAuthenticator.{HasNoMessageAuthenticator, message_authenticator, with_value}
use Rattle.roam_crypto.proofs.ValueLemmas.{with_value-none}
use Rattle.roam_crypto.proofs.SealingLemmas.{value_written, place_within}
use Rattle.roam_crypto.proofs.DigestLemmas.{length-message_authenticator}
use Rattle.roam_crypto.proofs.in_place.seal.Goals as goal

-- a packet without just one has none, and stays
pub returns-in_default : goal.returns-in_default
returns-in_default c =
    let p : Packet = packet_of c.args.octets.now in
    let none : HasNoMessageAuthenticator p =
    elim c.requires.at_most_one [ inl none ↦ none | inr one ↦ absurd (c.in_default.ensures.none one) ] in
    let stays = with_value-none (message_authenticator c.args.secret.now c.args.authenticator p) p none in
    c.requires.packet.spelt ∙ sym (ap packet_text stays)

-- the Value stands within the packet
pub put_sixteen-requires : goal.put_sixteen-requires
put_sixteen-requires c =
    let p : Packet = packet_of c.args.octets.now in
    let within : c.in-Some.at + 16 ≤ length (packet_text p) =
    place_within c.in-Some.at p c.requires.packet.packet c.requires.at_most_one c.in-Some.ensures.place in
    subst (λ (o : List ℕ). c.in-Some.at + 16 ≤ length o) (sym c.requires.packet.spelt) within

-- the digest stands where the Value stood
pub returns : goal.returns
returns c =
    let octets : List ℕ = c.args.octets.now in
    let p : Packet = packet_of octets in
    let at : ℕ = c.in-Some.at in
    let seal : List ℕ = message_authenticator c.args.secret.now c.args.authenticator p in
    let written = value_written at p seal c.requires.packet.packet c.requires.at_most_one c.in-Some.ensures.place
    (length-message_authenticator c.args.secret.now c.args.authenticator p) in
    let in_octets : take at octets ++ seal ++ drop (at + 16) octets ≡ packet_text (with_value seal p) =
    subst (λ (o : List ℕ). take at o ++ seal ++ drop (at + 16) o ≡ packet_text (with_value seal p))
    (sym c.requires.packet.spelt) written in
    rw (c.put_sixteen.ensures, c.digest_in-digest.ensures) in_octets
