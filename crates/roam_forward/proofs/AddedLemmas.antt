-- What is added to a request: which parts, how many octets, and these one behind another.
use Rattle.std.proofs.Common.{◌≡◌, ℕ, ◌+◌, ◌-◌, ◌/◌, ◌%◌, ◌≤◌, Bool, true, false, inl, inr, Option, Some, None, List, [], ◌∷◌, ◌++◌, length, replicate, refl, sym, ap, ◌∙◌, arith, append-nil, append_assoc, length-append}
use Rattle.std.specs.Prelude.{◌==◌, ◌&&◌, if◌then◌else◌, is_some, option_map}
use Rattle.std.proofs.lemmas.Bool.{cases_Bool, eqb-false, eqb-true}
use Rattle.roam_wire.specs.Packet.{Attribute, Packet, IsPacket, attribute_text, attributes_text, packet_length, packet_text}
use Rattle.roam_wire.specs.Attributes.{count_of}
use Rattle.roam_wire.specs.declared.attribute_type.TheConstants.{CHARGEABLE_USER_IDENTITY, MESSAGE_AUTHENTICATOR, OPERATOR_NAME}
use Rattle.roam_wire.specs.declared.code.TheConstants.{ACCESS_REQUEST}
use Rattle.roam_wire.proofs.LawLemmas.{length-packet_text}
use Rattle.roam_forward.specs.Without.{without}
use Rattle.roam_forward.proofs.WithoutLemmas.{text-append}
use Rattle.roam_forward.specs.Forwarded.{forwarded_length}
use Rattle.roam_forward.specs.Shaped.{Shaping, added_operator_name, all_added, operator_name_of, shaped}
use Rattle.roam_forward.specs.Private.Added.{cui_of, name_of}
use Rattle.roam_forward.proofs.BufferLemmas.{HoldsRequest, appended_twice}
use Rattle.roam_forward.proofs.ShapedLemmas.{forwarded-access_shaped, forwarded-other_shaped}

-- ---- which parts

-- where both hold, it is added
pub both-add : (a b : Bool) (added : List Attribute) → (a && b) ≡ true →
    (if a then (if b then added else []) else []) ≡ added
both-add true b added h = rw h refl
both-add false b added h = absurd (cc)

pub else-none : (a b : Bool) (added : List Attribute) → (a && b) ≡ false →
    (if a then (if b then added else []) else []) ≡ []
else-none true b added h = rw h refl
else-none false b added h = refl

-- an Operator-Name, where the peer has one
pub name-added : (a : Bool) (name : Option (List ℕ)) (all : List Attribute) →
    (a && (count_of OPERATOR_NAME all == 0)) ≡ true →
    name_of name ≡ (if a then added_operator_name name all else [])
name-added true None all h = refl
name-added true (Some name) all h = rw h refl
name-added false name all h = absurd (cc)

pub no_name-added : (a : Bool) (name : Option (List ℕ)) (all : List Attribute) →
    (a && (count_of OPERATOR_NAME all == 0)) ≡ false →
    [] ≡ (if a then added_operator_name name all else [])
no_name-added true None all h = refl
no_name-added true (Some name) all h = rw h refl
no_name-added false name all h = refl

pub absent-added : {T : Type 0} (octets : T → List ℕ) (a : Bool) (name : Option T) (all : List Attribute) →
    is_some name ≡ false → [] ≡ (if a then added_operator_name (option_map octets name) all else [])
absent-added octets true None all h = refl
absent-added octets true (Some name) all h = absurd (cc)
absent-added octets false name all h = refl

-- a Chargeable-User-Identity
pub cui-added : (a b : Bool) →
    cui_of (a && b) ≡ (if a then (if b then record { kind = CHARGEABLE_USER_IDENTITY; value = 0 ∷ [] } ∷ [] else [])
    else [])
cui-added true b = refl
cui-added false b = refl

-- ---- their octets

pub text-added : (x y z : List Attribute) →
    attributes_text (x ++ (y ++ z)) ≡ attributes_text x ++ (attributes_text y ++ attributes_text z)
text-added x y z =
    text-append x (y ++ z) ∙ ap (λ (t : List ℕ). attributes_text x ++ t) (text-append y z)

pub length-added : (x y z : List Attribute) →
    length (attributes_text (x ++ (y ++ z)))
    ≡ length (attributes_text x) + length (attributes_text y) + length (attributes_text z)
length-added x y z =
    omega (
      arith,
      ap length (text-added x y z),
      length-append (attributes_text x) (attributes_text y ++ attributes_text z),
      length-append (attributes_text y) (attributes_text z),
    )

pub length-name : (name : List ℕ) → length (attributes_text (operator_name_of name ∷ [])) ≡ 2 + length name
length-name name = omega (arith, length-append name [])

pub text-name : (name : List ℕ) →
    attributes_text (operator_name_of name ∷ []) ≡ attribute_text (operator_name_of name)
text-name name = append-nil (attribute_text (operator_name_of name))

-- one behind another
pub joined-added : (old : List ℕ) (x y z : List Attribute) →
    ((old ++ attributes_text x) ++ attributes_text y) ++ attributes_text z
    ≡ old ++ attributes_text (x ++ (y ++ z))
joined-added old x y z =
    let second : List ℕ = attributes_text y in
    let third : List ℕ = attributes_text z in
    append_assoc (old ++ attributes_text x) second third
    ∙ append_assoc old (attributes_text x) (second ++ third)
    ∙ ap (λ (t : List ℕ). old ++ t) (sym (text-added x y z))

-- ---- how much longer the forwarded packet is

pub growth-sealed : (s : Shaping) (q : Packet) →
    (q.code == ACCESS_REQUEST && (count_of MESSAGE_AUTHENTICATOR (without s.removed q.attributes) == 0)) ≡ true →
    packet_length (shaped s q) + 28 ≡ forwarded_length (shaped s q)
growth-sealed s q h =
    elim (cases_Bool (q.code == ACCESS_REQUEST)) [
      | inl access ↦
          let none : (count_of MESSAGE_AUTHENTICATOR (without s.removed q.attributes) == 0) ≡ true = rw access at h in
          let grown = rw none at (forwarded-access_shaped s q (eqb-true q.code ACCESS_REQUEST access)) in
          omega (arith, grown)
      | inr other ↦ absurd (let no : false ≡ true = rw other at h in cc no)
    ]

pub growth-other : (s : Shaping) (q : Packet) →
    (q.code == ACCESS_REQUEST && (count_of MESSAGE_AUTHENTICATOR (without s.removed q.attributes) == 0)) ≡ false →
    packet_length (shaped s q) + 10 ≡ forwarded_length (shaped s q)
growth-other s q h =
    elim (cases_Bool (q.code == ACCESS_REQUEST)) [
      | inl access ↦
          let some : (count_of MESSAGE_AUTHENTICATOR (without s.removed q.attributes) == 0) ≡ false = rw access at h in
          let grown = rw some at (forwarded-access_shaped s q (eqb-true q.code ACCESS_REQUEST access)) in
          omega (arith, grown)
      | inr other ↦
          let grown = forwarded-other_shaped s q (eqb-false q.code ACCESS_REQUEST other) in
          omega (arith, grown)
    ]

-- ---- in the buffer

-- a header has 20 octets
pub length-header : (old once : List ℕ) (code id high low : ℕ) (authenticator : List ℕ) →
    once ≡ old ++ (code ∷ id ∷ high ∷ low ∷ authenticator) → length authenticator ≡ 16 → length once ≡ length old + 20
length-header old once code id high low authenticator is size =
    omega (arith, size, ap length is, length-append old (code ∷ id ∷ high ∷ low ∷ authenticator))

-- a shaped request behind a buffer's octets: its header, what passes, what is added
pub shaped-text : (old : List ℕ) (s : Shaping) (q : Packet) (size : ℕ) (added : List Attribute) →
    size ≡ packet_length (shaped s q) → added ≡ all_added s q →
    ((old ++ (q.code ∷ q.id ∷ (size / 256) ∷ (size % 256) ∷ q.authenticator))
    ++ attributes_text (without s.removed q.attributes)) ++ attributes_text added
    ≡ old ++ packet_text (shaped s q)
unfolding shaped
shaped-text old s q size added size-is added-is =
    let passing : List ℕ = attributes_text (without s.removed q.attributes) in
    let further : List ℕ = attributes_text (all_added s q) in
    let header : List ℕ = q.code ∷ q.id ∷ (size / 256) ∷ (size % 256) ∷ q.authenticator in
    ap (λ (l : List Attribute). ((old ++ header) ++ passing) ++ attributes_text l) added-is
    ∙ append_assoc (old ++ header) passing further
    ∙ append_assoc old header (passing ++ further)
    ∙ ap (λ (t : List ℕ). old ++ (header ++ t)) (sym (text-append (without s.removed q.attributes) (all_added s q)))
    ∙ ap (λ (n : ℕ). old ++ (q.code ∷ q.id ∷ (n / 256) ∷ (n % 256) ∷ (q.authenticator
    ++ attributes_text (without s.removed q.attributes ++ all_added s q)))) size-is

-- a packet behind a buffer's octets, and zeros up to the size of the one that is forwarded for it
pub held-padded : (p : Packet) (start more : ℕ) (old once twice all : List ℕ) → IsPacket p → start ≡ length old →
    packet_length p + more ≡ forwarded_length p → 10 ≤ more → once ≡ old ++ packet_text p →
    twice ≡ once ++ replicate more 0 → all ≡ twice →
    HoldsRequest p start (forwarded_length p) old (packet_text p) all
held-padded p start more old once twice all packet start-is grown least first second same =
    let text : List ℕ = packet_text p in
    let size : ℕ = forwarded_length p in
    let as_many : size - length text ≡ more = omega (arith, grown, length-packet_text p packet) in
    record {
      all-is = appended_twice old text (replicate (size - length text) 0) once twice all first
          (second ∙ ap (λ (n : ℕ). once ++ replicate n 0) (sym as_many)) same;
      start-is = start-is;
      text-is = refl;
      packet = packet;
      size-is = refl;
      longer = omega (arith, grown, least);
    }
