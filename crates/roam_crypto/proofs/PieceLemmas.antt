-- Octets in pieces, as digests take them.
use Rattle.std.proofs.Common.{◌≡◌, ℕ, ◌+◌, ◌-◌, ◌<◌, ◌≤◌, List, ◌++◌, length, map, take, drop, replicate, refl, ap, ◌∙◌, arith, length-append, length-drop, subst, sym}
use Rattle.std.specs.Prelude.{slice_index, slice_set}
use Rattle.std.proofs.lemmas.List.{drop_at, drop-replicate, length-map, length-replicate, length-take, get_or_default}
use Rattle.std.proofs.lemmas.List.Edits.{map_over_more}
use Rattle.roam_wire.specs.Packet.{Packet, IsPacket, attributes_text, packet_text}
use Rattle.roam_wire.specs.Reading.{IsPacketText, packet_of}
use Rattle.roam_crypto.specs.Hmac.{padded_key}
use Rattle.roam_crypto.specs.Authenticators.{with_authenticator}

-- what stands before the Authenticator, another one, and what stands behind it
pub packet_text-with_authenticator : (a : List ℕ) (p : Packet) → IsPacket p →
    take 4 (packet_text p) ++ a ++ drop 20 (packet_text p) ≡ packet_text (with_authenticator a p)
packet_text-with_authenticator a p h =
    rw (drop_at p.authenticator (attributes_text p.attributes) 16 h.authenticator) refl

-- an Authenticator that is written into a packet's octets
pub field_written : (a octets : List ℕ) → IsPacketText octets →
    take 4 octets ++ a ++ drop 20 octets ≡ packet_text (with_authenticator a (packet_of octets))
field_written a octets h =
    let p : Packet = packet_of octets in
    subst (λ (o : List ℕ). take 4 o ++ a ++ drop 20 o ≡ packet_text (with_authenticator a p)) (sym h.spelt)
    (packet_text-with_authenticator a p h.packet)

-- the pieces that a Response Authenticator takes in
pub signed_pieces : (a secret before field behind octets : List ℕ) (p : Packet) → IsPacket p →
    octets ≡ packet_text p → before ≡ take 4 octets → field ≡ a → behind ≡ drop 20 octets →
    before ++ field ++ behind ++ secret ≡ packet_text (with_authenticator a p) ++ secret
signed_pieces a secret before field behind octets p packet text front middle back =
    let pieces : before ++ field ++ behind
    ≡ take 4 (packet_text p) ++ a ++ drop 20 (packet_text p) =
    rw (front, middle, back, text) refl in
    ap (λ (t : List ℕ). t ++ secret) (pieces ∙ packet_text-with_authenticator a p packet)

-- a key that is written over the front of zeros
pub front_written : (n : ℕ) (key written : List ℕ) → written ≡ key →
    written ++ drop (length key) (replicate n 0) ≡ key ++ replicate (n - length key) 0
front_written n key written same = rw (same, drop-replicate) refl

-- a padded key has the 64 octets of a block
pub length-padded_key : (key : List ℕ) → length key ≤ 64 → length (padded_key key) ≡ 64
length-padded_key key short =
    omega (
      arith,
      length-append key (replicate (64 - length key) 0),
      length-replicate {A = ℕ} (64 - length key) 0,
    )

-- a list that is mapped in place, one element more
pub map_one_more : (f : ℕ → ℕ) (xs ys : List ℕ) (i : ℕ) → i < length xs →
    ys ≡ map f (take i xs) ++ drop i xs →
    slice_set ys i (f (slice_index ys i)) ≡ map f (take (i + 1) xs) ++ drop (i + 1) xs
map_one_more f xs ys i within held =
    let size : length ys ≡ length xs =
    omega (
      arith,
      ap length held,
      length-append (map f (take i xs)) (drop i xs),
      length-map (take i xs) f,
      length-take i xs,
      length-drop i xs,
    ) in
    map_over_more f xs ys i (slice_index ys i) within held
    (get_or_default ys i 0 (slice_index ys i) (omega arith))
