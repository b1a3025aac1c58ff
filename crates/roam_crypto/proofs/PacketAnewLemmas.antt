-- A whole packet hidden anew in its octets.
use Rattle.std.proofs.Common.{◌≡◌, ℕ, ◌-◌, ◌/◌, ◌%◌, List, [], ◌∷◌, ◌++◌, length, take, drop, ap, refl, ◌∙◌, arith, append-nil, length-drop}
use Rattle.std.proofs.lemmas.List.{take_at, drop_at, take_all, drop_all}
use Rattle.roam_wire.specs.Packet.{Attribute, Packet, attributes_text, packet_text, packet_length}
use Rattle.roam_wire.specs.Reading.{IsPacketText, packet_of}
use Rattle.roam_crypto.specs.declared.packet_values.Hidden.{Hidden}
use Rattle.roam_crypto.specs.declared.packet_values.Hidden.TheVariants.{UserPassword, SaltedStrings}
use Rattle.roam_crypto.specs.Hiding.{Key}
use Rattle.roam_crypto.specs.PacketAnew.{attribute_anew}
use Rattle.roam_crypto.proofs.InPlaceLemmas.{KeepsKind}

-- hiding anew leaves the Type
pub kind-anew : (hidden : Hidden) (from to : Key) → KeepsKind (attribute_anew hidden from to)
kind-anew UserPassword from to a = refl
kind-anew SaltedStrings from to a = refl

-- all octets behind the header
pub behind_header : (octets : List ℕ) → take (length octets - 20) (drop 20 octets) ≡ drop 20 octets
behind_header octets = take_all (length octets - 20) (drop 20 octets) (omega (arith, length-drop 20 octets))

-- of a packet they are those of its attributes
pub attributes_there : (octets : List ℕ) → IsPacketText octets →
    take (length octets - 20) (drop 20 octets) ≡ attributes_text (packet_of octets).attributes
attributes_there octets h =
    let p : Packet = packet_of octets in
    behind_header octets
    ∙ ap (drop 20) h.spelt
    ∙ drop_at p.authenticator (attributes_text p.attributes) 16 h.packet.authenticator

-- as many octets written there are another packet's
pub attributes_written : (octets written : List ℕ) (all : List Attribute) → IsPacketText octets →
    written ≡ attributes_text all → length written ≡ length (take (length octets - 20) (drop 20 octets)) →
    take 20 octets ++ (written ++ drop (length octets - 20) (drop 20 octets))
    ≡ packet_text (record (packet_of octets) { attributes = all })
attributes_written octets written all h is same =
    let p : Packet = packet_of octets in
    let q : Packet = record p { attributes = all } in
    let size : packet_length p ≡ packet_length q =
    omega (arith, same, ap length is, ap length (attributes_there octets h)) in
    let none : drop (length octets - 20) (drop 20 octets) ≡ [] =
    drop_all (length octets - 20) (drop 20 octets) (omega (arith, length-drop 20 octets)) in
    let header : take 20 octets ≡ p.code ∷ p.id ∷ (packet_length p / 256) ∷ (packet_length p % 256) ∷ p.authenticator =
    ap (take 20) h.spelt
    ∙ ap (λ (t : List ℕ). p.code ∷ p.id ∷ (packet_length p / 256) ∷ (packet_length p % 256) ∷ t)
    (take_at p.authenticator (attributes_text p.attributes) 16 h.packet.authenticator) in
    ap (λ (t : List ℕ). take 20 octets ++ (written ++ t)) none
    ∙ ap (λ (t : List ℕ). take 20 octets ++ t) (append-nil written ∙ is)
    ∙ ap (λ (t : List ℕ). t ++ attributes_text all) header
    ∙ ap (λ (n : ℕ). p.code ∷ p.id ∷ (n / 256) ∷ (n % 256) ∷ p.authenticator ++ attributes_text all) size
