-- What is forwarded for a request as it is shaped is little longer than it.
use Rattle.std.proofs.Common.{◌≡◌, ℕ, ◌+◌, ◌≤◌, Bool, true, false, List, [], ◌∷◌, length, Option, Some, None, refl, inl, inr, arith, length-append}
use Rattle.std.specs.Prelude.{◌==◌, ◌&&◌, if◌then◌else◌}
use Rattle.std.specs.Option.{ForSome}
use Rattle.std.proofs.lemmas.Bool.{cases_Bool}
use Rattle.roam_wire.specs.Attributes.{count_of}
use Rattle.roam_wire.specs.Packet.{Attribute, Packet, IsPacket, attributes_text, packet_length}
use Rattle.roam_wire.specs.declared.attribute_type.TheConstants.{CHARGEABLE_USER_IDENTITY, MESSAGE_AUTHENTICATOR, OPERATOR_NAME}
use Rattle.roam_wire.specs.declared.code.TheConstants.{ACCESS_REQUEST}
use Rattle.roam_forward.specs.Without.{without}
use Rattle.roam_forward.proofs.WithoutLemmas.{length-without}
use Rattle.roam_forward.specs.Forwarded.{challenge_is_authenticator, forwarded_length}
use Rattle.roam_forward.specs.Shaped.{HasShortName, Shaping, added_cui, added_operator_name, all_added, challenge_first, passing, shaped, takes_operator_name}
use Rattle.roam_forward.proofs.AddedLemmas.{growth-other, growth-sealed, length-added, length-name}
use Rattle.roam_forward.proofs.ShapedLemmas.{length-shaped}

-- a part that is added, or not
part-short : (b : Bool) (part : List Attribute) (most : ℕ) → length (attributes_text part) ≤ most →
    length (attributes_text (if b then part else [])) ≤ most
part-short true part most h = h
part-short false part most h = omega arith

name-short : (name : Option (List ℕ)) (all : List Attribute) → ForSome name (λ name. length name ≤ 253) →
    length (attributes_text (added_operator_name name all)) ≤ 255
name-short None all h = omega arith
name-short (Some name) all h =
    part-short (count_of OPERATOR_NAME all == 0) (record { kind = OPERATOR_NAME; value = name } ∷ []) 255
    (omega (arith, length-name name, h name refl))

cui-short : (asked : Bool) (all : List Attribute) → length (attributes_text (added_cui asked all)) ≤ 3
cui-short asked all =
    part-short (asked && count_of CHARGEABLE_USER_IDENTITY all == 0)
    (record { kind = CHARGEABLE_USER_IDENTITY; value = 0 ∷ [] } ∷ []) 3 (omega arith)

challenge-short : (b d : Bool) (kind : ℕ) (value : List ℕ) → length value ≡ 16 →
    length (attributes_text (if b then (if d then record { kind = kind; value = value } ∷ [] else []) else [])) ≤ 18
challenge-short b d kind value size =
    part-short b (if d then record { kind = kind; value = value } ∷ [] else []) 18
    (part-short d (record { kind = kind; value = value } ∷ []) 18
    (omega (arith, size, length-append value [])))

added-short : (s : Shaping) (q : Packet) → HasShortName s → IsPacket q →
    length (attributes_text (all_added s q)) ≤ 276
added-short s q name packet =
    let all : List Attribute = without s.removed q.attributes in
    let first : List Attribute = challenge_first (passing s.removed q) in
    let second : List Attribute = if takes_operator_name q.code then added_operator_name s.operator_name all else [] in
    let third : List Attribute = if q.code == ACCESS_REQUEST then added_cui s.ask_cui all else [] in
    omega (
      arith,
      length-added first second third,
      challenge-short (q.code == ACCESS_REQUEST) (challenge_is_authenticator all) 60 q.authenticator
          packet.authenticator,
      part-short (takes_operator_name q.code) (added_operator_name s.operator_name all) 255
          (name-short s.operator_name all name),
      part-short (q.code == ACCESS_REQUEST) (added_cui s.ask_cui all) 3 (cui-short s.ask_cui all),
    )

-- the request as it is shaped, and what is forwarded for it
shaped-short : (s : Shaping) (q : Packet) → HasShortName s → IsPacket q →
    packet_length (shaped s q) ≤ packet_length q + 276
shaped-short s q name packet =
    omega (
      arith,
      length-shaped s q,
      length-without s.removed q.attributes packet.attributes,
      added-short s q name packet,
    )

pub forwarded-short : (s : Shaping) (q : Packet) → HasShortName s → IsPacket q →
    forwarded_length (shaped s q) ≤ packet_length q + 304
forwarded-short s q name packet =
    let short = shaped-short s q name packet in
    elim (cases_Bool (q.code == ACCESS_REQUEST
    && (count_of MESSAGE_AUTHENTICATOR (without s.removed q.attributes) == 0))) [
      | inl sealed ↦ let grown = growth-sealed s q sealed in omega (arith, short, grown)
      | inr other ↦ let grown = growth-other s q other in omega (arith, short, grown)
    ]
