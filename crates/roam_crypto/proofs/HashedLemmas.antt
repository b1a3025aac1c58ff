-- A packet that a Message-Authenticator takes in, in pieces.
use Rattle.std.proofs.Common.{◌≡◌, ℕ, ◌+◌, ◌≤◌, inr, List, ◌++◌, length, take, drop, refl, sym, ap, ◌∙◌, arith, append_assoc}
use Rattle.std.proofs.lemmas.List.{drop-append-le, drop-drop, length-take-le, take-append-drop, take-append-le, take-take}
use Rattle.roam_wire.specs.Packet.{Packet, IsPacket, packet_text}
use Rattle.roam_crypto.specs.Authenticators.{AreSixteenOctets, zero_octets, with_authenticator}
use Rattle.roam_crypto.specs.MessageAuthenticator.{HasOneMessageAuthenticator, with_value}
use Rattle.roam_crypto.specs.Sealing.{IsValuePlace}
use Rattle.roam_wire.proofs.OctetLemmas.{AreOctets-zeros}
use Rattle.roam_crypto.proofs.PieceLemmas.{packet_text-with_authenticator}
use Rattle.roam_crypto.proofs.SealingLemmas.{place_within, value_written}
use Rattle.roam_crypto.proofs.ValueLemmas.{IsPacket-with_value}

-- octets of which sixteen are others, from the twentieth on and before it
front_of_written : (o zeros : List ℕ) (at : ℕ) → 20 ≤ at → at ≤ length o →
    take 4 (take at o ++ zeros ++ drop (at + 16) o) ≡ take 4 o
front_of_written o zeros at header within =
    let size : length (take at o) ≡ at = length-take-le at o within in
    ap (take 4) (append_assoc (take at o) zeros (drop (at + 16) o))
    ∙ take-append-le 4 (take at o) (zeros ++ drop (at + 16) o) (omega (arith, size))
    ∙ take-take 4 at o (omega arith)

behind_of_written : (o zeros : List ℕ) (at : ℕ) → 20 ≤ at → at ≤ length o →
    drop 20 (take at o ++ zeros ++ drop (at + 16) o) ≡ drop 20 (take at o) ++ (zeros ++ drop (at + 16) o)
behind_of_written o zeros at header within =
    let size : length (take at o) ≡ at = length-take-le at o within in
    ap (drop 20) (append_assoc (take at o) zeros (drop (at + 16) o))
    ∙ drop-append-le 20 (take at o) (zeros ++ drop (at + 16) o) (omega (arith, size))

-- the header before the Authenticator, another Authenticator, what stands before the Value of the
-- Message-Authenticator, zeros, and what stands behind that Value
pub hashed_pieces : (a o : List ℕ) (at : ℕ) (p : Packet) → IsPacket p → HasOneMessageAuthenticator p →
    IsValuePlace at p.attributes → o ≡ packet_text p →
    take 4 o ++ a ++ drop 20 (take at o) ++ zero_octets ++ drop (at + 16) o
    ≡ packet_text (with_authenticator a (with_value zero_octets p))
hashed_pieces a o at p packet one place text =
    let sixteen : AreSixteenOctets zero_octets = record { size = refl; octets = AreOctets-zeros 16 } in
    let zeroed : IsPacket (with_value zero_octets p) = IsPacket-with_value zero_octets p sixteen (inr one) packet in
    let within : at + 16 ≤ length o = rw text (place_within at p packet (inr one) place) in
    let header : 20 ≤ at = omega (arith, place.place) in
    let written : take at o ++ zero_octets ++ drop (at + 16) o ≡ packet_text (with_value zero_octets p) =
    rw text (value_written at p zero_octets packet (inr one) place refl) in
    let front : take 4 (packet_text (with_value zero_octets p)) ≡ take 4 o =
    sym (ap (take 4) written) ∙ front_of_written o zero_octets at header (omega (arith, within)) in
    let behind : drop 20 (packet_text (with_value zero_octets p))
    ≡ drop 20 (take at o) ++ (zero_octets ++ drop (at + 16) o) =
    sym (ap (drop 20) written) ∙ behind_of_written o zero_octets at header (omega (arith, within)) in
    let whole : take 4 o ++ a ++ (drop 20 (take at o) ++ (zero_octets ++ drop (at + 16) o))
    ≡ packet_text (with_authenticator a (with_value zero_octets p)) =
    rw (sym front, sym behind) (packet_text-with_authenticator a (with_value zero_octets p) zeroed) in
    append_assoc (take 4 o ++ a ++ drop 20 (take at o)) zero_octets (drop (at + 16) o)
    ∙ append_assoc (take 4 o ++ a) (drop 20 (take at o)) (zero_octets ++ drop (at + 16) o) ∙ whole

-- a hasher that has taken in something takes in what stands before the Value, with another Authenticator, and what
-- stands from it on, with zeros
pub update_pieces : (m a o : List ℕ) (at : ℕ) (p : Packet) → IsPacket p → HasOneMessageAuthenticator p →
    IsValuePlace at p.attributes → o ≡ packet_text p →
    (m ++ (take 4 (take at o) ++ a ++ drop 20 (take at o))) ++ (zero_octets ++ drop 16 (drop at o))
    ≡ m ++ packet_text (with_authenticator a (with_value zero_octets p))
update_pieces m a o at p packet one place text =
    let front : take 4 (take at o) ≡ take 4 o = take-take 4 at o (omega (arith, place.place)) in
    let rest : List ℕ = drop (at + 16) o in
    let head : List ℕ = take 4 o ++ a ++ drop 20 (take at o) in
    rw (front, drop-drop 16 at o)
    (append_assoc m head (zero_octets ++ rest)
    ∙ ap (λ (t : List ℕ). m ++ t)
    (sym (append_assoc head zero_octets rest) ∙ hashed_pieces a o at p packet one place text))

-- octets that are what is hashed are taken in as they are

-- with this Authenticator in its field
pub field_same : (a o : List ℕ) → drop 4 (take 20 o) ≡ a → take 4 o ++ a ++ drop 20 o ≡ o
field_same a o is =
    let front : take 4 o ++ a ≡ take 20 o =
    rw (sym is, sym (take-take 4 20 o (omega arith))) (take-append-drop 4 (take 20 o)) in
    ap (λ (t : List ℕ). t ++ drop 20 o) front ∙ take-append-drop 20 o

-- with zeros for the first ones
pub zeros_same : (z o : List ℕ) → take 16 o ≡ z → z ++ drop 16 o ≡ o
zeros_same z o is = rw (sym is) (take-append-drop 16 o)

-- three pieces, one behind another
pub three_pieces : (m x a d : List ℕ) → m ++ x ++ a ++ d ≡ m ++ (x ++ a ++ d)
three_pieces m x a d =
    append_assoc (m ++ x) a d ∙ append_assoc m x (a ++ d) ∙ ap (λ (t : List ℕ). m ++ t) (sym (append_assoc x a d))
