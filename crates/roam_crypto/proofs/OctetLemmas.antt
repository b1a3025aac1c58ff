-- What is hidden anew is octets, as what it was hidden from.
use Rattle.std.proofs.Common.{◌≡◌, ℕ, zero, suc, ◌*◌, ◌/◌, ◌==◌, Bool, true, false, List, [], ◌∷◌, ◌++◌, length, take, drop, Option, Some, None, sym, ap, subst, inl, inr, arith}
use Rattle.std.specs.Prelude.{bit_xor, if◌then◌else◌, nat_le, slice_index, map}
use Rattle.std.specs.Int.{w32, to_le_bytes}
use Rattle.std.specs.List.{AllByRecursion}
use Rattle.std.specs.Option.{option_map_or}
use Rattle.std.specs.Simd.Lanes.{zip2}
use Rattle.std.proofs.lemmas.Nat.{xor_of_8}
use Rattle.md5.specs.Md5.{digest_bytes, md5}
use Rattle.roam_wire.specs.Packet.{AreOctets, Attribute, IsAttribute, attributes_text}
use Rattle.roam_wire.specs.Reading.{attributes_of}
use Rattle.roam_wire.specs.declared.attribute_type.TheConstants.{VENDOR_SPECIFIC}
use Rattle.roam_wire.proofs.OctetLemmas.{AreOctets-empty, AreOctets-cons, AreOctets-append, AreOctets-take, AreOctets-drop, AreOctets-attributes_text}
use Rattle.roam_wire.proofs.AttributeLemmas.{read_spells}
use Rattle.roam_crypto.specs.declared.salted_kinds.Salting.{Salting}
use Rattle.roam_crypto.specs.declared.salted_kinds.Salting.TheVariants.{Salt, TagAndSalt}
use Rattle.roam_crypto.specs.Hiding.{Key, block, cover, xor_octets, blocks_to, hidden_text, plain_text, hidden_anew}
use Rattle.roam_crypto.specs.SaltedKinds.{salting_of}
use Rattle.roam_crypto.specs.SaltedValues.{salted_key, vendor_number}
use Rattle.roam_crypto.specs.SaltedFunctions.{has_whole_blocks, salted_anew, tunnel_anew, value_anew, sub_attribute_anew, subs_anew, vendor_subs, vendor_anew, salted_hidden_anew}
use Rattle.roam_crypto.proofs.SaltedFunctionLemmas.{value_anew_is, length_value_anew}
use Rattle.roam_crypto.proofs.VendorLemmas.{vendor_or_not, where_there}

-- ---- a digest

AreOctets-word : (n : ℕ) → AreOctets (to_le_bytes w32 n)
AreOctets-word n zero = omega arith
AreOctets-word n (suc zero) = omega arith
AreOctets-word n (suc (suc zero)) = omega arith
AreOctets-word n (suc (suc (suc zero))) = omega arith
AreOctets-word n (suc (suc (suc (suc i)))) = omega arith

AreOctets-digest : (h : List ℕ) (n : ℕ) → AreOctets (digest_bytes h n)
unfolding digest_bytes
AreOctets-digest h zero = AreOctets-empty
AreOctets-digest h (suc n) =
    AreOctets-append (digest_bytes h n) (to_le_bytes w32 (slice_index h n)) (AreOctets-digest h n)
    (AreOctets-word (slice_index h n))

AreOctets-md5 : (m : List ℕ) → AreOctets (md5 m)
unfolding md5
AreOctets-md5 m = AreOctets-digest _ 4

-- ---- blocks

AreOctets-xor : (a b : List ℕ) → AreOctets a → AreOctets b → AreOctets (zip2 bit_xor a b)
AreOctets-xor [] b h k = AreOctets-empty
AreOctets-xor (x ∷ xs) [] h k = AreOctets-empty
AreOctets-xor (x ∷ xs) (y ∷ ys) h k =
    AreOctets-cons (bit_xor x y) (zip2 bit_xor xs ys) (xor_of_8 x y (h 0) (k 0))
    (AreOctets-xor xs ys (λ i. h (suc i)) (λ i. k (suc i)))

AreOctets-blocks_to : (make : ℕ → List ℕ → List ℕ) (n : ℕ) → ((k : ℕ) (done : List ℕ) → AreOctets (make k done)) →
    AreOctets (blocks_to make n)
unfolding blocks_to
AreOctets-blocks_to make zero each = AreOctets-empty
AreOctets-blocks_to make (suc n) each =
    AreOctets-append (blocks_to make n) (make n (blocks_to make n)) (AreOctets-blocks_to make n each)
    (each n (blocks_to make n))

AreOctets-block : (k : ℕ) (text : List ℕ) → AreOctets text → AreOctets (block k text)
AreOctets-block k text h = AreOctets-take 16 (drop (16 * k) text) (AreOctets-drop (16 * k) text h)

AreOctets-hidden_text : (key : Key) (plain : List ℕ) → AreOctets plain → AreOctets (hidden_text key plain)
AreOctets-hidden_text key plain h =
    AreOctets-blocks_to (λ (k : ℕ) (done : List ℕ). xor_octets (block k plain) (cover key done k)) (length plain / 16)
    (λ k done. AreOctets-xor (block k plain) (cover key done k) (AreOctets-block k plain h) (AreOctets-md5 _))

AreOctets-plain_text : (key : Key) (hidden : List ℕ) → AreOctets hidden → AreOctets (plain_text key hidden)
AreOctets-plain_text key hidden h =
    AreOctets-blocks_to (λ (k : ℕ) (done : List ℕ). xor_octets (block k hidden) (cover key hidden k))
    (length hidden / 16)
    (λ k done. AreOctets-xor (block k hidden) (cover key hidden k) (AreOctets-block k hidden h) (AreOctets-md5 _))

pub AreOctets-hidden_anew : (from to : Key) (old : List ℕ) → AreOctets old → AreOctets (hidden_anew from to old)
AreOctets-hidden_anew from to old h = AreOctets-hidden_text to (plain_text from old) (AreOctets-plain_text from old h)

-- ---- salted values

either : (b : Bool) (x y : List ℕ) → AreOctets x → AreOctets y → AreOctets (if b then x else y)
either true x y first second = first
either false x y first second = second

AreOctets-salted_anew : (from to : Key) (old : List ℕ) → AreOctets old → AreOctets (salted_anew from to old)
AreOctets-salted_anew from to old h =
    let salt : List ℕ = take 2 old in
    let string : List ℕ = drop 2 old in
    let fresh : List ℕ = hidden_anew (salted_key from salt) (salted_key to salt) string in
    either (has_whole_blocks string) (salt ++ fresh) old
    (AreOctets-append salt fresh (AreOctets-take 2 old h)
    (AreOctets-hidden_anew (salted_key from salt) (salted_key to salt) string (AreOctets-drop 2 old h))) h

AreOctets-tunnel_anew : (from to : Key) (old : List ℕ) → AreOctets old → AreOctets (tunnel_anew from to old)
AreOctets-tunnel_anew from to old h =
    AreOctets-append (take 1 old) (salted_anew from to (drop 1 old)) (AreOctets-take 1 old h)
    (AreOctets-salted_anew from to (drop 1 old) (AreOctets-drop 1 old h))

AreOctets-value_anew : (from to : Key) (salting : Option Salting) (old : List ℕ) → AreOctets old →
    AreOctets (value_anew from to salting old)
AreOctets-value_anew from to None old h = h
AreOctets-value_anew from to (Some Salt) old h = AreOctets-salted_anew from to old h
AreOctets-value_anew from to (Some TagAndSalt) old h = AreOctets-tunnel_anew from to old h

-- sub-attributes stay attributes
IsAttribute-subs : (from to : Key) (vendor : ℕ) (subs : List Attribute) → AllByRecursion IsAttribute subs →
    AllByRecursion IsAttribute (map (sub_attribute_anew from to vendor) subs)
IsAttribute-subs from to vendor [] h = tt
IsAttribute-subs from to vendor (sub ∷ others) h =
    let salting : Option Salting = salting_of (Some vendor) sub.kind in
    let limit = h.0.size in
    let same = length_value_anew from to salting sub.value (value_anew from to salting sub.value)
    (value_anew_is from to salting sub.value) in (
      record {
        kind = h.0.kind;
        octets = AreOctets-value_anew from to salting sub.value h.0.octets;
        size = omega (arith, limit, same);
      },
      IsAttribute-subs from to vendor others h.1,
    )

-- the sub-attributes that are read from octets are attributes
subs_are : (value : List ℕ) (subs : List Attribute) → AreOctets value → vendor_subs value ≡ Some subs →
    AllByRecursion IsAttribute subs
subs_are value subs h read =
    let octets : List ℕ = drop 4 value in
    let spelt = where_there (nat_le 4 (length value)) (attributes_of octets) subs read in
    (read_spells (length octets) octets subs (omega arith) (AreOctets-drop 4 value h) spelt.1).attributes

AreOctets-vendor_anew : (from to : Key) (old : List ℕ) → AreOctets old → AreOctets (vendor_anew from to old)
AreOctets-vendor_anew from to old h =
    let vendor : List ℕ = take 4 old in
    let chosen : Option (List Attribute) → List ℕ = λ o. option_map_or (subs_anew from to vendor) o old in
    elim (vendor_or_not old) [
      | inl has ↦
          let fresh : List Attribute = map (sub_attribute_anew from to (vendor_number vendor)) has.0 in
          let text = AreOctets-attributes_text fresh
          (IsAttribute-subs from to (vendor_number vendor) has.0 (subs_are old has.0 h has.1)) in
          subst AreOctets (sym (ap chosen has.1))
          (AreOctets-append vendor (attributes_text fresh) (AreOctets-take 4 old h) text)
      | inr none ↦ subst AreOctets (sym (ap chosen none)) h
    ]

pub AreOctets-attribute_anew : (from to : Key) (old : Attribute) → AreOctets old.value →
    AreOctets (salted_hidden_anew from to old).value
AreOctets-attribute_anew from to old h =
    either (old.kind == VENDOR_SPECIFIC) (vendor_anew from to old.value)
    (value_anew from to (salting_of None old.kind) old.value) (AreOctets-vendor_anew from to old.value h)
    (AreOctets-value_anew from to (salting_of None old.kind) old.value h)
