-- Where a Message-Authenticator stands, and a packet with another one written there.
use Rattle.std.proofs.Common.{◌≡◌, ℕ, ◌+◌, ◌/◌, ◌%◌, ◌≤◌, inl, inr, List, [], ◌∷◌, ◌++◌, length, map, take, drop, false, refl, sym, ap, subst, ◌∙◌, arith, length-append, append_assoc}
use Rattle.std.proofs.lemmas.List.{take_at, drop_at, drop-drop, map-append}
use Rattle.std.proofs.lemmas.List.Concat.{flat_map-append}
use Rattle.std.proofs.lemmas.List.Sums.{sum_by-append}
use Rattle.std.specs.Prelude.{if◌then◌else◌}
use Rattle.std.specs.List.{AllByRecursion}
use Rattle.roam_wire.specs.Packet.{Attribute, Packet, IsPacket, attribute_text, attributes_text, packet_text, packet_length}
use Rattle.roam_wire.specs.Attributes.{has_kind, count_of}
use Rattle.roam_wire.specs.declared.attribute_type.TheConstants.{MESSAGE_AUTHENTICATOR}
use Rattle.roam_crypto.specs.MessageAuthenticator.{HasAtMostOneMessageAuthenticator, attribute_with_value, with_value}
use Rattle.roam_crypto.specs.Sealing.{IsValuePlace}
use Rattle.roam_crypto.proofs.ValueLemmas.{seal_count-yes, seal_count-no, map_none, all_sized, IsSized, packet_length-with_value}

-- a walk over the attributes: those that were passed hold no Message-Authenticator, and those that are
-- left begin at this octet
pub record IsAt (all left : List Attribute) (at : ℕ) : Type 0 where
  pub passed : List Attribute
  pub split : all ≡ passed ++ left
  pub none_passed : count_of MESSAGE_AUTHENTICATOR passed ≡ 0
  pub place : at ≡ 20 + length (attributes_text passed)

-- a count over two lists in a row
pub count_of-append : (kind : ℕ) (xs ys : List Attribute) →
    count_of kind (xs ++ ys) ≡ count_of kind xs + count_of kind ys
count_of-append kind xs ys = sum_by-append (λ (x : Attribute). if has_kind kind x then 1 else 0) xs ys

-- the octets of attributes in a row
pub length-attributes_text-append : (xs ys : List Attribute) →
    length (attributes_text (xs ++ ys)) ≡ length (attributes_text xs) + length (attributes_text ys)
length-attributes_text-append xs ys =
    ap length (flat_map-append attribute_text xs ys) ∙ length-append (attributes_text xs) (attributes_text ys)

-- one attribute on
pub IsAt-more : (all left : List Attribute) (a : Attribute) (at : ℕ) → has_kind MESSAGE_AUTHENTICATOR a ≡ false →
    IsAt all (a ∷ left) at → IsAt all left (at + (2 + length a.value))
IsAt-more all left a at other h =
    let one = length-append (attribute_text a) (attributes_text []) in
    record {
      passed = h.passed ++ a ∷ [];
      split = h.split ∙ sym (append_assoc h.passed (a ∷ []) left);
      none_passed = count_of-append MESSAGE_AUTHENTICATOR h.passed (a ∷ [])
          ∙ rw (h.none_passed, seal_count-no a [] other) refl;
      place = omega (arith, length-attributes_text-append h.passed (a ∷ []), h.place, one);
    }

-- octets in three parts, with another middle of as many octets
middle_written : (front middle rest written : List ℕ) (at n : ℕ) → at ≡ length front → n ≡ length middle →
    take at (front ++ (middle ++ rest)) ++ written ++ drop (at + n) (front ++ (middle ++ rest)) ≡ front
    ++ (written ++ rest)
middle_written front middle rest written at n at-is n-is =
    let all : List ℕ = front ++ (middle ++ rest) in
    let before : take at all ≡ front = take_at front (middle ++ rest) at (sym at-is) in
    let here : drop at all ≡ middle ++ rest = drop_at front (middle ++ rest) at (sym at-is) in
    let behind : drop (at + n) all ≡ rest =
    sym (drop-drop n at all) ∙ ap (drop n) here ∙ drop_at middle rest n (sym n-is) in
    rw (before, behind) (append_assoc front written rest)

-- the header and the octets before a Message-Authenticator's Value
abbrev head_of : Packet → List Attribute → List ℕ
head_of p before = p.code ∷ p.id ∷ (packet_length p / 256) ∷ (packet_length p % 256) ∷ p.authenticator
    ++ attributes_text before ++ MESSAGE_AUTHENTICATOR ∷ 18 ∷ []

-- what holds of all attributes holds of one in the middle
at_middle : (before : List Attribute) (a : Attribute) (behind : List Attribute) →
    AllByRecursion IsSized (before ++ a ∷ behind) → IsSized a
at_middle [] a behind h = h.0
at_middle (x ∷ xs) a behind h = at_middle xs a behind h.1

-- the octets behind a header's Length, with a Message-Authenticator of 16 octets among the attributes
split_text : (authenticator : List ℕ) (before : List Attribute) (value : List ℕ) (behind : List Attribute) →
    length value ≡ 16 → authenticator
    ++ attributes_text (before ++ record { kind = MESSAGE_AUTHENTICATOR; value = value } ∷ behind)
    ≡ (authenticator ++ attributes_text before ++ MESSAGE_AUTHENTICATOR ∷ 18 ∷ []) ++ (value ++ attributes_text behind)
split_text authenticator before value behind size =
    let own : Attribute = record { kind = MESSAGE_AUTHENTICATOR; value = value } in
    let rest : List ℕ = value ++ attributes_text behind in
    let sized : List ℕ → List ℕ = λ octets. authenticator ++ octets in
    let apart : attributes_text (before ++ own ∷ behind) ≡ attributes_text before
    ++ (MESSAGE_AUTHENTICATOR ∷ 18 ∷ rest) =
    flat_map-append attribute_text before (own ∷ behind)
    ∙ ap (λ (n : ℕ). attributes_text before ++ MESSAGE_AUTHENTICATOR ∷ (n + 2) ∷ rest) size in
    ap sized apart
    ∙ sym (append_assoc authenticator (attributes_text before) (MESSAGE_AUTHENTICATOR ∷ 18 ∷ rest))
    ∙ sym (append_assoc (authenticator ++ attributes_text before) (MESSAGE_AUTHENTICATOR ∷ 18 ∷ []) rest)

-- behind the first of at most one stands none
none_behind : (p : Packet) (at : ℕ) → HasAtMostOneMessageAuthenticator p → (place : IsValuePlace at p.attributes) →
    count_of MESSAGE_AUTHENTICATOR place.behind ≡ 0
none_behind p at at_most place =
    let own : Attribute = record { kind = MESSAGE_AUTHENTICATOR; value = place.value } in
    let all = ap (count_of MESSAGE_AUTHENTICATOR) place.split
    ∙ count_of-append MESSAGE_AUTHENTICATOR place.before (own ∷ place.behind) in
    let here = seal_count-yes own place.behind refl in
    let first = place.none_before in
    elim at_most [
      | inl none ↦ absurd (omega (arith, none))
      | inr one ↦ (let just_one = one.one in omega arith)
    ]

-- with another Value, the attributes before and behind stay
value_in_middle : (p : Packet) (at : ℕ) (value : List ℕ) → HasAtMostOneMessageAuthenticator p →
    (place : IsValuePlace at p.attributes) →
    map (attribute_with_value value) p.attributes ≡ place.before
    ++ record { kind = MESSAGE_AUTHENTICATOR; value = value } ∷ place.behind
value_in_middle p at value at_most place =
    let own : Attribute = record { kind = MESSAGE_AUTHENTICATOR; value = place.value } in
    ap (map (attribute_with_value value)) place.split
    ∙ map-append (attribute_with_value value) place.before (own ∷ place.behind)
    ∙ rw (
      map_none value place.before place.none_before,
      map_none value place.behind (none_behind p at at_most place),
    ) refl

-- a packet's octets with another Value of 16 octets in the place of its Message-Authenticator's are the
-- packet with that Value
pub value_written : (at : ℕ) (p : Packet) (value : List ℕ) → IsPacket p → HasAtMostOneMessageAuthenticator p →
    IsValuePlace at p.attributes → length value ≡ 16 →
    take at (packet_text p) ++ value ++ drop (at + 16) (packet_text p) ≡ packet_text (with_value value p)
value_written at p value packet at_most place size =
    let before = place.before in
    let behind = place.behind in
    let own : Attribute = record { kind = MESSAGE_AUTHENTICATOR; value = place.value } in
    let head = head_of p before in
    let own_size : length place.value ≡ 16 =
    (at_middle before own behind (subst (AllByRecursion IsSized) place.split (all_sized p at_most))).size refl in
    let same : packet_length (with_value value p) ≡ packet_length p = packet_length-with_value value p size at_most in
    let text : packet_text p ≡ head ++ (place.value ++ attributes_text behind) =
    ap (λ (all : List Attribute). p.code ∷ p.id ∷ (packet_length p / 256) ∷ (packet_length p % 256) ∷ p.authenticator
    ++ attributes_text all) place.split
    ∙ ap (λ (t : List ℕ). p.code ∷ p.id ∷ (packet_length p / 256) ∷ (packet_length p % 256) ∷ t)
    (split_text p.authenticator before place.value behind own_size) in
    let head_size : at ≡ length head =
    omega (
      arith,
      place.place,
      packet.authenticator,
      length-append (p.authenticator ++ attributes_text before) (MESSAGE_AUTHENTICATOR ∷ 18 ∷ []),
      length-append p.authenticator (attributes_text before),
    ) in
    let fresh : packet_text (with_value value p) ≡ head ++ (value ++ attributes_text behind) =
    ap (λ (n : ℕ). p.code ∷ p.id ∷ (n / 256) ∷ (n % 256) ∷ p.authenticator
    ++ attributes_text (map (attribute_with_value value) p.attributes)) same
    ∙ ap (λ (all : List Attribute). p.code ∷ p.id ∷ (packet_length p / 256) ∷ (packet_length p % 256) ∷
    p.authenticator ++ attributes_text all) (value_in_middle p at value at_most place)
    ∙ ap (λ (t : List ℕ). p.code ∷ p.id ∷ (packet_length p / 256) ∷ (packet_length p % 256) ∷ t)
    (split_text p.authenticator before value behind size) in
    rw text (middle_written head place.value (attributes_text behind) value at 16 head_size (sym own_size)) ∙ sym fresh

-- the Value of a Message-Authenticator stands within the packet's octets
pub place_within : (at : ℕ) (p : Packet) → IsPacket p → HasAtMostOneMessageAuthenticator p →
    IsValuePlace at p.attributes → at + 16 ≤ length (packet_text p)
place_within at p packet at_most place =
    let own : Attribute = record { kind = MESSAGE_AUTHENTICATOR; value = place.value } in
    let own_size : length place.value ≡ 16 =
    (at_middle place.before own place.behind
    (subst (AllByRecursion IsSized) place.split (all_sized p at_most))).size refl in
    let all : length (attributes_text p.attributes)
    ≡ length (attributes_text place.before) + length (attributes_text (own ∷ place.behind)) =
    ap (λ (l : List Attribute). length (attributes_text l)) place.split
    ∙ length-attributes_text-append place.before (own ∷ place.behind) in
    omega (
      arith,
      all,
      length-append (attribute_text own) (attributes_text place.behind),
      length-append p.authenticator (attributes_text p.attributes),
      place.place,
      packet.authenticator,
    )

-- the attributes that are left are these
pub IsAt-next : (all left others : List Attribute) (at : ℕ) → left ≡ others → IsAt all left at → IsAt all others at
IsAt-next all left others at same h = subst (λ (l : List Attribute). IsAt all l at) same h
