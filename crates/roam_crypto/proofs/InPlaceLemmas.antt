-- Attributes that are changed in place, one after the other, each in its Value alone.
use Rattle.std.proofs.Common.{◌≡◌, ℕ, ◌+◌, ◌-◌, ◌<◌, ◌≤◌, List, [], ◌∷◌, ◌++◌, length, take, drop, map, get_or, refl, sym, ap, ap₂, ◌∙◌, subst, arith, append_assoc, append-nil, length-append, length-drop}
use Rattle.std.specs.Prelude.{slice_range}
use Rattle.std.specs.List.{AllByRecursion}
use Rattle.std.proofs.lemmas.List.{take-append-drop, take_at, drop_at, take_all, length-take-le, drop-drop, flat_map_more, map-append, get_or-drop}
use Rattle.roam_wire.specs.Packet.{Attribute, attribute_text, attributes_text}

-- octets that are left begin with an attribute
pub record HasNext (now : List ℕ) (at : ℕ) (rest : List Attribute) : Type 0 where
  pub first : Attribute
  pub others : List Attribute
  pub is : rest ≡ first ∷ others
  pub kind : get_or now at 0 ≡ first.kind
  pub size : get_or now (at + 1) 0 ≡ length first.value + 2
  pub within : at + (length first.value + 2) ≤ length now

next_of : (now : List ℕ) (at : ℕ) (rest : List Attribute) → at < length now
    → drop at now ≡ attributes_text rest → HasNext now at rest
next_of now at [] left behind = absurd (omega (arith, length-drop at now, ap length behind))
next_of now at (first ∷ others) left behind =
    let tail = attributes_text others in
    let at_first : get_or (drop at now) 0 0 ≡ first.kind = ap (λ (t : List ℕ). get_or t 0 0) behind in
    let at_second : get_or (drop at now) 1 0 ≡ length first.value + 2 =
    ap (λ (t : List ℕ). get_or t 1 0) behind in
    let here : at + 0 ≡ at = omega arith in
    record {
      first = first;
      others = others;
      is = refl;
      kind = subst (λ (n : ℕ). get_or now n 0 ≡ first.kind) here
          (sym (get_or-drop at now 0 0) ∙ at_first);
      size = sym (get_or-drop at now 1 0) ∙ at_second;
      within = omega (arith, length-drop at now, ap length behind, length-append first.value tail);
    }

-- a change of the Value leaves the Type
abbrev pub KeepsKind : (Attribute → Attribute) → Type 0
KeepsKind anew = (a : Attribute) → (anew a).kind ≡ a.kind

-- an attribute is its Type and its Value
attribute_of_parts : (a : Attribute) (kind : ℕ) (value : List ℕ) → a.kind ≡ kind → a.value ≡ value →
    attribute_text a ≡ kind ∷ (length value + 2) ∷ value
attribute_of_parts a kind value k v = rw (k, v) refl

-- The octets before `at` are those of `done` changed, and the octets from there on are still those
-- of `rest`.
pub record IsUnderway (anew : Attribute → Attribute) (Can : Attribute → Type 0) (all : List Attribute) (now : List ℕ)
    (at : ℕ) : Type 0 where
  pub done : List Attribute
  pub rest : List Attribute
  pub split : all ≡ done ++ rest
  pub can : AllByRecursion Can rest
  pub inside : at ≤ length now
  pub front : take at now ≡ attributes_text (map anew done)
  pub behind : drop at now ≡ attributes_text rest

pub underway_start : (anew : Attribute → Attribute) (Can : Attribute → Type 0) (all : List Attribute) (now : List ℕ) →
    now ≡ attributes_text all → AllByRecursion Can all → IsUnderway anew Can all now 0
underway_start anew Can all now spelt can = record {
  done = [];
  rest = all;
  split = refl;
  can = can;
  inside = omega arith;
  front = refl;
  behind = spelt;
}

-- any attribute can be
abbrev pub Always : Attribute → Type 0
Always a = Unit

pub always_all : (all : List Attribute) → AllByRecursion Always all
always_all [] = tt
always_all (a ∷ all) = (tt, always_all all)

-- octets that are left begin with an attribute that can be changed
pub record CanNext (Can : Attribute → Type 0) (now : List ℕ) (at : ℕ) : Type 0 where
  pub size : 2 ≤ get_or now (at + 1) 0
  pub within : at + get_or now (at + 1) 0 ≤ length now
  pub can : Can
      (record { kind = get_or now at 0; value = slice_range now (at + 2) (at + get_or now (at + 1) 0) })

-- octets in three parts
pub record IsThree (now ahead value tail : List ℕ) (kind at n : ℕ) : Type 0 where
  pub now_is : now ≡ (ahead ++ kind ∷ n ∷ []) ++ (value ++ tail)
  pub ahead_size : length ahead ≡ at
  pub size : n ≡ length value + 2

three_head : (now ahead value tail : List ℕ) (kind at n : ℕ) → IsThree now ahead value tail kind at n →
    take (at + 2) now ≡ ahead ++ kind ∷ n ∷ []
three_head now ahead value tail kind at n h =
    let head_size : length (ahead ++ kind ∷ n ∷ []) ≡ at + 2 =
    omega (arith, h.ahead_size, length-append ahead (kind ∷ n ∷ [])) in
    ap (take (at + 2)) h.now_is ∙ take_at (ahead ++ kind ∷ n ∷ []) (value ++ tail) (at + 2) head_size

three_value_on : (now ahead value tail : List ℕ) (kind at n : ℕ) → IsThree now ahead value tail kind at n →
    drop (at + 2) now ≡ value ++ tail
three_value_on now ahead value tail kind at n h =
    let head_size : length (ahead ++ kind ∷ n ∷ []) ≡ at + 2 =
    omega (arith, h.ahead_size, length-append ahead (kind ∷ n ∷ [])) in
    ap (drop (at + 2)) h.now_is ∙ drop_at (ahead ++ kind ∷ n ∷ []) (value ++ tail) (at + 2) head_size

three_value : (now ahead value tail : List ℕ) (kind at n : ℕ) → IsThree now ahead value tail kind at n →
    slice_range now (at + 2) (at + n) ≡ value
three_value now ahead value tail kind at n h =
    let value_size : length value ≡ (at + n) - (at + 2) = omega (arith, h.size) in
    ap (take ((at + n) - (at + 2))) (three_value_on now ahead value tail kind at n h)
    ∙ take_at value tail ((at + n) - (at + 2)) value_size

three_tail : (now ahead value tail : List ℕ) (kind at n : ℕ) → IsThree now ahead value tail kind at n →
    drop (at + n) now ≡ tail
three_tail now ahead value tail kind at n h =
    let joined : at + 2 + length value ≡ at + n = omega (arith, h.size) in
    ap (λ (m : ℕ). drop m now) (sym joined)
    ∙ sym (drop-drop (length value) (at + 2) now)
    ∙ ap (drop (length value)) (three_value_on now ahead value tail kind at n h)
    ∙ drop_at value tail (length value) refl

-- what stands at `at` while the walk is underway
three_of : (anew : Attribute → Attribute) (Can : Attribute → Type 0) (all : List Attribute) (now : List ℕ) (at : ℕ)
    (h : IsUnderway anew Can all now at) (a : Attribute) (others : List Attribute) → h.rest ≡ a ∷ others →
    IsThree now (attributes_text (map anew h.done)) a.value (attributes_text others)
    a.kind at (length a.value + 2)
three_of anew Can all now at h a others is =
    let ahead : List ℕ = attributes_text (map anew h.done) in
    let tail : List ℕ = attributes_text others in
    let ahead_size : length ahead ≡ at = ap length (sym h.front) ∙ length-take-le at now h.inside in
    let behind : drop at now ≡ attribute_text a ++ tail = h.behind ∙ ap attributes_text is in
    record {
      now_is = sym (take-append-drop at now)
          ∙ ap₂ (λ (t u : List ℕ). t ++ u) h.front behind
          ∙ sym (append_assoc ahead (a.kind ∷ (length a.value + 2) ∷ []) (a.value ++ tail));
      ahead_size = ahead_size;
      size = refl;
    }

pub can_next : (anew : Attribute → Attribute) (Can : Attribute → Type 0) (all : List Attribute) (now : List ℕ)
    (at : ℕ) → IsUnderway anew Can all now at → at < length now → CanNext Can now at
can_next anew Can all now at h left =
    let found = next_of now at h.rest left h.behind in
    let three = three_of anew Can all now at h found.first found.others found.is in
    let first : Can found.first = (subst (AllByRecursion Can) found.is h.can).0 in
    let value = three_value now _ found.first.value (attributes_text found.others) found.first.kind at
    (length found.first.value + 2) three in
    let CanBe : ℕ → List ℕ → Type 0 = λ kind value. Can (record { kind = kind; value = value }) in
    let range : slice_range now (at + 2) (at + get_or now (at + 1) 0) ≡ found.first.value =
    ap (λ (n : ℕ). slice_range now (at + 2) (at + n)) found.size ∙ value in
    record {
      size = omega (arith, found.size);
      within = omega (arith, found.size, found.within);
      can = subst (λ (kind : ℕ). CanBe kind (slice_range now (at + 2) (at + get_or now (at + 1) 0))) (sym found.kind)
          (subst (λ (v : List ℕ). CanBe found.first.kind v) (sym range) first);
    }

-- The value of the next attribute is changed.
pub underway_step : (anew : Attribute → Attribute) (Can : Attribute → Type 0) (all : List Attribute)
    (now next : List ℕ) (at n : ℕ) → KeepsKind anew →
    IsUnderway anew Can all now at → at < length now → n ≡ get_or now (at + 1) 0 → length next ≡ length now →
    next ≡ take (at + 2) now ++ ((anew
    (record { kind = get_or now at 0; value = slice_range now (at + 2) (at + n) })).value ++ drop (at + n) now) →
    IsUnderway anew Can all next (at + n)
underway_step anew Can all now next at n keeps h left n_is same_length next_is =
    let found = next_of now at h.rest left h.behind in
    let a : Attribute = found.first in
    let tail : List ℕ = attributes_text found.others in
    let ahead : List ℕ = attributes_text (map anew h.done) in
    let size : n ≡ length a.value + 2 = n_is ∙ found.size in
    let three : IsThree now ahead a.value tail a.kind at n =
    subst (λ (m : ℕ). IsThree now ahead a.value tail a.kind at m) (sym size)
    (three_of anew Can all now at h a found.others found.is) in
    let same : record { kind = get_or now at 0; value = slice_range now (at + 2) (at + n) } ≡ a =
    ap₂ (λ (kind : ℕ) (value : List ℕ). record { kind = kind; value = value }) found.kind
    (three_value now ahead a.value tail a.kind at n three) in
    let fresh : Attribute = anew a in
    let head = three_head now ahead a.value tail a.kind at n three in
    let rest = three_tail now ahead a.value tail a.kind at n three in
    let next_spelt : next ≡ (ahead ++ a.kind ∷ n ∷ []) ++ (fresh.value ++ tail) =
    next_is
    ∙ ap (λ (x : Attribute). take (at + 2) now ++ ((anew x).value ++ drop (at + n) now)) same
    ∙ ap₂ (λ (t u : List ℕ). t ++ (fresh.value ++ u)) head rest in
    let fresh_size : length fresh.value + 2 ≡ n =
    omega (
      arith,
      ap length next_spelt,
      ap length three.now_is,
      same_length,
      three.size,
      length-append (ahead ++ a.kind ∷ n ∷ []) (fresh.value ++ tail),
      length-append (ahead ++ a.kind ∷ n ∷ []) (a.value ++ tail),
      length-append fresh.value tail,
      length-append a.value tail,
    ) in
    let fresh_text : attribute_text fresh ≡ a.kind ∷ n ∷ fresh.value =
    attribute_of_parts fresh a.kind fresh.value (keeps a) refl
    ∙ ap (λ (m : ℕ). a.kind ∷ m ∷ fresh.value) fresh_size in
    let whole : next ≡ (ahead ++ attribute_text fresh) ++ tail =
    next_spelt
    ∙ append_assoc ahead (a.kind ∷ n ∷ []) (fresh.value ++ tail)
    ∙ ap (λ (t : List ℕ). ahead ++ (t ++ tail)) (sym fresh_text)
    ∙ sym (append_assoc ahead (attribute_text fresh) tail) in
    let whole_size : length (ahead ++ attribute_text fresh) ≡ at + n =
    omega (arith, length-append ahead (attribute_text fresh), three.ahead_size, ap length fresh_text, fresh_size) in
    let done_text : ahead ++ attribute_text fresh
    ≡ attributes_text (map anew (h.done ++ a ∷ [])) =
    flat_map_more attribute_text [] (map anew h.done) fresh
    ∙ ap attributes_text (sym (map-append anew h.done (a ∷ []))) in
    record {
      done = h.done ++ a ∷ [];
      rest = found.others;
      split = h.split ∙ ap (λ (t : List Attribute). h.done ++ t) found.is
          ∙ sym (append_assoc h.done (a ∷ []) found.others);
      can = (subst (AllByRecursion Can) found.is h.can).1;
      inside = omega (arith, found.within, size, same_length);
      front = ap (take (at + n)) whole ∙ take_at (ahead ++ attribute_text fresh) tail (at + n) whole_size ∙ done_text;
      behind = ap (drop (at + n)) whole ∙ drop_at (ahead ++ attribute_text fresh) tail (at + n) whole_size;
    }

no_rest : (rest : List Attribute) → length (attributes_text rest) ≡ 0 → rest ≡ []
no_rest [] e = refl
no_rest (a ∷ others) e = absurd (omega arith)

-- nothing is left
pub underway_done : (anew : Attribute → Attribute) (Can : Attribute → Type 0) (all : List Attribute) (now : List ℕ)
    (at : ℕ) → IsUnderway anew Can all now at → length now ≤ at →
    now ≡ attributes_text (map anew all)
underway_done anew Can all now at h over =
    let none : h.rest ≡ [] = no_rest h.rest (omega (arith, ap length h.behind, length-drop at now)) in
    let done : all ≡ h.done = h.split ∙ ap (λ (t : List Attribute). h.done ++ t) none ∙ append-nil h.done in
    sym (take_all at now over) ∙ h.front
    ∙ ap (λ (l : List Attribute). attributes_text (map anew l)) (sym done)
