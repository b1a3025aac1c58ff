-- A walk over attributes that looks for the one Message-Authenticator.
use Rattle.std.proofs.Common.{◌≡◌, ◌≢◌, ◌⊎◌, ℕ, ◌+◌, ◌≤◌, true, false, inl, inr, List, [], ◌∷◌, ◌++◌, length, Option, Some, None, IsSome, refl, sym, ap, subst, ◌∙◌, arith, length-append, append_assoc, append-nil}
use Rattle.std.specs.Prelude.{MatchOption, IfSome, IsSomeAnd}
use Rattle.std.proofs.lemmas.Bool.{cases_Bool, eqb-true}
use Rattle.roam_wire.specs.Packet.{Attribute, Packet, attribute_text, attributes_text}
use Rattle.roam_wire.specs.Attributes.{count_of}
use Rattle.roam_wire.specs.declared.attribute_type.TheConstants.{MESSAGE_AUTHENTICATOR}
use Rattle.roam_crypto.specs.MessageAuthenticator.{HasOneMessageAuthenticator}
use Rattle.roam_crypto.specs.SealPlaces.{IsNextPlace}
use Rattle.roam_crypto.specs.Sealing.{IsValuePlace}
use Rattle.roam_crypto.proofs.SealingLemmas.{count_of-append, length-attributes_text-append}
use Rattle.roam_crypto.proofs.ValueLemmas.{first_seal, is_seal, seal_count, seal_count-no, seal_count-yes, first_seal-no, first_seal-yes}

-- just one, of 16 octets, stands among these, and its Value begins there
pub record IsOnly (at : ℕ) (all : List Attribute) : Type 0 where
  pub place : IsValuePlace at all
  pub size : length place.value ≡ 16
  pub none_behind : count_of MESSAGE_AUTHENTICATOR place.behind ≡ 0

-- what was met among those that were passed
abbrev pub HasMet : List Attribute → Option ℕ → Type 0
HasMet passed met = MatchOption met (count_of MESSAGE_AUTHENTICATOR passed ≡ 0) (λ at. IsOnly at passed)

-- those that were passed, and the octet at which those begin that are left
pub record IsSearched (all left : List Attribute) (at : ℕ) (met : Option ℕ) : Type 0 where
  pub passed : List Attribute
  pub split : all ≡ passed ++ left
  pub place : at ≡ 20 + length (attributes_text passed)
  pub so_far : HasMet passed met

only_more : (at : ℕ) (passed : List Attribute) (a : Attribute) → is_seal a ≡ false → IsOnly at passed →
    IsOnly at (passed ++ a ∷ [])
only_more at passed a other h =
    let own : Attribute = record { kind = MESSAGE_AUTHENTICATOR; value = h.place.value } in
    record {
      place = record {
        before = h.place.before;
        value = h.place.value;
        behind = h.place.behind ++ a ∷ [];
        split = ap (λ (l : List Attribute). l ++ a ∷ []) h.place.split
            ∙ append_assoc h.place.before (own ∷ h.place.behind) (a ∷ []);
        none_before = h.place.none_before;
        place = h.place.place;
      };
      size = h.size;
      none_behind = count_of-append MESSAGE_AUTHENTICATOR h.place.behind (a ∷ [])
          ∙ rw (h.none_behind, seal_count-no a [] other) refl;
    }

only_here : (at : ℕ) (passed : List Attribute) (a : Attribute) → is_seal a ≡ true → length a.value ≡ 16 →
    at ≡ 20 + length (attributes_text passed) → seal_count passed ≡ 0 → IsOnly (at + 2) (passed ++ a ∷ [])
only_here at passed a seal size here none =
    let kind : a.kind ≡ MESSAGE_AUTHENTICATOR = eqb-true a.kind MESSAGE_AUTHENTICATOR seal in
    record {
      place = record {
        before = passed;
        value = a.value;
        behind = [];
        split = ap (λ (k : ℕ). passed ++ record { kind = k; value = a.value } ∷ []) kind;
        none_before = none;
        place = omega (arith, here);
      };
      size = size;
      none_behind = refl;
    }

-- another attribute leaves what was met
met_more : (met : Option ℕ) (passed : List Attribute) (a : Attribute) → is_seal a ≡ false → HasMet passed met →
    HasMet (passed ++ a ∷ []) met
met_more None passed a other h =
    count_of-append MESSAGE_AUTHENTICATOR passed (a ∷ []) ∙ rw (h, seal_count-no a [] other) refl
met_more (Some at) passed a other h = only_more at passed a other h

met_next : (met next : Option ℕ) (at : ℕ) (passed : List Attribute) (a : Attribute) → IsNextPlace met at a next →
    at ≡ 20 + length (attributes_text passed) → HasMet passed met → HasMet (passed ++ a ∷ []) next
met_next met next at passed a step here h =
    elim step [
      | inl other ↦ subst (HasMet (passed ++ a ∷ [])) (sym other.1) (met_more met passed a other.0 h)
      | inr seal ↦
          let none : seal_count passed ≡ 0 = subst (HasMet passed) seal.1 h in
          subst (HasMet (passed ++ a ∷ [])) (sym seal.3) (only_here at passed a seal.0 seal.2 here none)
    ]

-- one attribute on
pub searched_next : (all left : List Attribute) (a : Attribute) (at : ℕ) (met next : Option ℕ) →
    IsNextPlace met at a next → IsSearched all (a ∷ left) at met →
    IsSearched all left (at + (2 + length a.value)) next
searched_next all left a at met next step h =
    let one = length-append (attribute_text a) (attributes_text []) in
    record {
      passed = h.passed ++ a ∷ [];
      split = h.split ∙ sym (append_assoc h.passed (a ∷ []) left);
      place = omega (arith, length-attributes_text-append h.passed (a ∷ []), h.place, one);
      so_far = met_next met next at h.passed a step h.place h.so_far;
    }

-- the first Value is that of the first one
first_at : (before : List Attribute) (own : Attribute) (behind : List Attribute) → is_seal own ≡ true →
    seal_count before ≡ 0 → first_seal (before ++ own ∷ behind) ≡ Some own.value
first_at [] own behind seal none = first_seal-yes own behind seal
first_at (a ∷ before) own behind seal none =
    elim (cases_Bool (is_seal a)) [
      | inl here ↦ absurd (omega (arith, seal_count-yes a before here))
      | inr other ↦
          first_seal-no a (before ++ own ∷ behind) other
          ∙ first_at before own behind seal (sym (seal_count-no a before other) ∙ none)
    ]

-- how many stand there
only_count : (at : ℕ) (all : List Attribute) → IsOnly at all → seal_count all ≡ 1
only_count at all h =
    let own : Attribute = record { kind = MESSAGE_AUTHENTICATOR; value = h.place.value } in
    ap seal_count h.place.split ∙ count_of-append MESSAGE_AUTHENTICATOR h.place.before (own ∷ h.place.behind)
    ∙ rw (h.place.none_before, seal_count-yes own h.place.behind refl, h.none_behind) refl

-- the attributes that are left are these
pub searched_now : (all left others : List Attribute) (at : ℕ) (met : Option ℕ) → left ≡ others →
    IsSearched all left at met → IsSearched all others at met
searched_now all left others at met same h = subst (λ (l : List Attribute). IsSearched all l at met) same h

-- where all were passed, what was met is the packet's
pub all_searched : (p : Packet) (at : ℕ) (met : Option ℕ) → IsSearched p.attributes [] at met →
    HasMet p.attributes met
all_searched p at met h =
    subst (λ (all : List Attribute). HasMet all met) (sym (h.split ∙ append-nil h.passed)) h.so_far

pub only_is_one : (p : Packet) (at : ℕ) → IsOnly at p.attributes → HasOneMessageAuthenticator p
only_is_one p at h =
    let own : Attribute = record { kind = MESSAGE_AUTHENTICATOR; value = h.place.value } in
    let first : first_seal p.attributes ≡ Some h.place.value =
    ap first_seal h.place.split ∙ first_at h.place.before own h.place.behind refl h.place.none_before in
    record {
      one = only_count at p.attributes h;
      size = subst (λ (o : Option (List ℕ)). IsSomeAnd o (λ value. length value ≡ 16)) (sym first) h.size;
    }

pub found_is_one : (p : Packet) (left : List Attribute) (at : ℕ) (met : Option ℕ) → left ≡ [] →
    IsSearched p.attributes left at met → IfSome met (λ _. HasOneMessageAuthenticator p)
found_is_one p left at None none h = tt
found_is_one p left at (Some place) none h =
    only_is_one p place (all_searched p at (Some place) (searched_now p.attributes left [] at (Some place) none h))

-- at least one stands among those that are left
some_left : (a : Attribute) (left : List Attribute) → is_seal a ≡ true → 1 ≤ seal_count (a ∷ left)
some_left a left seal = omega (arith, seal_count-yes a left seal)

second : (p : Packet) (at : ℕ) (passed left : List Attribute) (a : Attribute) → p.attributes ≡ passed ++ a ∷ left →
    is_seal a ≡ true → IsOnly at passed → HasOneMessageAuthenticator p → ⊥
second p at passed left a split seal only h =
    let one : seal_count p.attributes ≡ 1 = h.one in
    let all : seal_count p.attributes ≡ seal_count passed + seal_count (a ∷ left) =
    ap seal_count split ∙ count_of-append MESSAGE_AUTHENTICATOR passed (a ∷ left) in
    absurd (omega (arith, one, all, only_count at passed only, some_left a left seal))

other_size : (p : Packet) (passed left : List Attribute) (a : Attribute) → p.attributes ≡ passed ++ a ∷ left →
    is_seal a ≡ true → seal_count passed ≡ 0 → (length a.value ≡ 16 → ⊥) → HasOneMessageAuthenticator p → ⊥
other_size p passed left a split seal none wrong h =
    let first : first_seal p.attributes ≡ Some a.value = ap first_seal split ∙ first_at passed a left seal none in
    wrong (subst (λ (o : Option (List ℕ)). IsSomeAnd o (λ value. length value ≡ 16)) first h.size)

-- a second one, or one of another size
pub not_one : (p : Packet) (left : List Attribute) (a : Attribute) (at : ℕ) (met : Option ℕ) →
    IsSearched p.attributes (a ∷ left) at met → is_seal a ≡ true →
    (IsSome met ⊎ (length a.value ≢ 16)) → HasOneMessageAuthenticator p → ⊥
not_one p left a at None h seal why one =
    elim why [
      | inl some ↦ absurd (cc some)
      | inr wrong ↦ other_size p h.passed left a h.split seal h.so_far wrong one
    ]
not_one p left a at (Some place) h seal why one = second p place h.passed left a h.split seal h.so_far one
