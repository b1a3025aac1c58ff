-- Values with a salted string are hidden anew in just one way, and keep their size.
use Rattle.std.proofs.Common.{◌≡◌, ℕ, ◌+◌, ◌%◌, ◌<◌, ◌==◌, Bool, true, false, List, [], ◌∷◌, ◌++◌, length, take, drop, Option, Some, None, refl, sym, ap, ap₂, ◌∙◌, subst, inl, inr, arith, length-append, length-drop}
use Rattle.std.specs.Prelude.{◌⊎◌, ◌&&◌, if◌then◌else◌, nat_lt}
use Rattle.std.proofs.lemmas.Bool.{cases_Bool}
use Rattle.std.proofs.lemmas.Bool.Decides.{nat_tests}
use Rattle.std.proofs.lemmas.List.{take-append-drop, take_at, drop_at, length-take-le}
use Rattle.roam_crypto.specs.declared.salted_kinds.Salting.{Salting}
use Rattle.roam_crypto.specs.declared.salted_kinds.Salting.TheVariants.{Salt, TagAndSalt}
use Rattle.roam_crypto.specs.Hiding.{Key, HasWholeBlocks, IsHiddenAnew, hidden_anew}
use Rattle.roam_crypto.specs.SaltedValues.{salted_key, IsSaltedAnew, IsTunnelAnew, IsValueAnew}
use Rattle.roam_crypto.specs.SaltedFunctions.{has_whole_blocks, salted_anew, tunnel_anew, value_anew}
use Rattle.roam_crypto.proofs.HidingLemmas.{hidden_anew_hides, same_anew}

-- ---- salt and string

-- whether a text has whole blocks
whole_or_not : (text : List ℕ)
    → ((has_whole_blocks text ≡ true) × HasWholeBlocks text) ⊎
    ((has_whole_blocks text ≡ false) × (HasWholeBlocks text → ⊥))
whole_or_not text =
    elim (cases_Bool (has_whole_blocks text)) [
      | inl has ↦
          let some : 0 < length text = grind (arith, nat_tests, has) in
          let whole : length text % 16 ≡ 0 = grind (arith, nat_tests, has) in
          inl (has, record { not_empty = some; whole_blocks = whole })
      | inr lacks ↦ inr (lacks, λ h. no_whole (length text) h.not_empty h.whole_blocks lacks)
    ]
  where
    no_whole : (n : ℕ) → 0 < n → n % 16 ≡ 0 → (nat_lt 0 n && (n % 16 == 0)) ≡ false → ⊥
    no_whole n some whole lacks =
        let first : nat_lt 0 n ≡ true = grind (arith, nat_tests) in
        let second : (n % 16 == 0) ≡ true = grind (arith, nat_tests) in
        absurd (cc (rw (first, second) at lacks))

salted_anew_is : (from to : Key) (old : List ℕ)
    → IsSaltedAnew from to old (salted_anew from to old)
salted_anew_is from to old =
    let salt = take 2 old in
    let string = drop 2 old in
    let fresh = hidden_anew (salted_key from salt) (salted_key to salt) string in
    let choose : Bool → List ℕ = λ b. if b then salt ++ fresh else old in
    elim (whole_or_not string) [
      | inl has ↦
          let salt_size : length salt ≡ 2 =
          length-take-le 2 old (omega (arith, has.1.not_empty, length-drop 2 old)) in
          let is : IsSaltedAnew from to old (salt ++ fresh) = record {
            salt = take_at salt fresh 2 salt_size;
            string = λ whole. subst (λ (t : List ℕ). IsHiddenAnew (salted_key from salt)
                (salted_key to salt) string t) (sym (drop_at salt fresh 2 salt_size))
                (hidden_anew_hides (salted_key from salt) (salted_key to salt) string
                whole.whole_blocks);
            other_string = λ lacks. absurd (lacks has.1);
          } in
          subst (IsSaltedAnew from to old) (sym (ap choose has.0)) is
      | inr lacks ↦
          let is : IsSaltedAnew from to old old = record {
            salt = refl;
            string = λ whole. absurd (lacks.1 whole);
            other_string = λ _. refl;
          } in
          subst (IsSaltedAnew from to old) (sym (ap choose lacks.0)) is
    ]

same_salted_anew : (from to : Key) (old a b : List ℕ) → IsSaltedAnew from to old a
    → IsSaltedAnew from to old b → a ≡ b
same_salted_anew from to old a b p q =
    let salt = take 2 old in
    elim (whole_or_not (drop 2 old)) [
      | inl has ↦
          let strings : drop 2 a ≡ drop 2 b =
          same_anew (salted_key from salt) (salted_key to salt) (drop 2 old) (drop 2 a) (drop 2 b)
          (p.string has.1) (q.string has.1) in
          sym (take-append-drop 2 a) ∙ ap₂ (λ (t u : List ℕ). t ++ u) (p.salt ∙ sym q.salt) strings
          ∙ take-append-drop 2 b
      | inr lacks ↦ p.other_string lacks.1 ∙ sym (q.other_string lacks.1)
    ]

-- ---- tag, salt and string

tunnel_anew_is : (from to : Key) (old : List ℕ)
    → IsTunnelAnew from to old (tunnel_anew from to old)
tunnel_anew_is from to [] = record { tag = refl; salted = salted_anew_is from to [] }
tunnel_anew_is from to (tag ∷ value) = record { tag = refl; salted = salted_anew_is from to value }

same_tunnel_anew : (from to : Key) (old a b : List ℕ) → IsTunnelAnew from to old a
    → IsTunnelAnew from to old b → a ≡ b
same_tunnel_anew from to old a b p q =
    let behind : drop 1 a ≡ drop 1 b =
    same_salted_anew from to (drop 1 old) (drop 1 a) (drop 1 b) p.salted q.salted in
    sym (take-append-drop 1 a) ∙ ap₂ (λ (t u : List ℕ). t ++ u) (p.tag ∙ sym q.tag) behind
    ∙ take-append-drop 1 b

-- ---- by how a value begins

pub value_anew_is : (from to : Key) (salting : Option Salting) (old : List ℕ)
    → IsValueAnew from to salting old (value_anew from to salting old)
value_anew_is from to None old = refl
value_anew_is from to (Some Salt) old = salted_anew_is from to old
value_anew_is from to (Some TagAndSalt) old = tunnel_anew_is from to old

pub same_value_anew : (from to : Key) (salting : Option Salting) (old a b : List ℕ)
    → IsValueAnew from to salting old a → IsValueAnew from to salting old b → a ≡ b
same_value_anew from to None old a b p q = p ∙ sym q
same_value_anew from to (Some Salt) old a b p q = same_salted_anew from to old a b p q
same_value_anew from to (Some TagAndSalt) old a b p q = same_tunnel_anew from to old a b p q

-- ---- sizes stay

pub length_hidden_anew : (from to : Key) (old new : List ℕ) → IsHiddenAnew from to old new
    → length new ≡ length old
length_hidden_anew from to old new p = p.2.same_size ∙ sym p.1.same_size

-- the sizes of two parts
length_parts : (n : ℕ) (v : List ℕ) → length v ≡ length (take n v) + length (drop n v)
length_parts n v = ap length (sym (take-append-drop n v)) ∙ length-append (take n v) (drop n v)

-- where the front stays, and what is behind it keeps its size, all keeps its size
same_length : (n : ℕ) (old new : List ℕ) → take n new ≡ take n old
    → length (drop n new) ≡ length (drop n old) → length new ≡ length old
same_length n old new front behind = omega
    (arith, length_parts n old, length_parts n new, ap length front)

length_salted_anew : (from to : Key) (old new : List ℕ) → IsSaltedAnew from to old new
    → length new ≡ length old
length_salted_anew from to old new p =
    let salt = take 2 old in
    elim (whole_or_not (drop 2 old)) [
      | inl has ↦ same_length 2 old new p.salt
          (length_hidden_anew (salted_key from salt) (salted_key to salt) (drop 2 old) (drop 2 new)
          (p.string has.1))
      | inr lacks ↦ ap length (p.other_string lacks.1)
    ]

length_tunnel_anew : (from to : Key) (old new : List ℕ) → IsTunnelAnew from to old new
    → length new ≡ length old
length_tunnel_anew from to old new p = same_length 1 old new p.tag
    (length_salted_anew from to (drop 1 old) (drop 1 new) p.salted)

pub length_value_anew : (from to : Key) (salting : Option Salting) (old new : List ℕ)
    → IsValueAnew from to salting old new → length new ≡ length old
length_value_anew from to None old new p = ap length p
length_value_anew from to (Some Salt) old new p = length_salted_anew from to old new p
length_value_anew from to (Some TagAndSalt) old new p = length_tunnel_anew from to old new p

-- ---- what callers cite: a value that is hidden anew is what the function gives

pub is_hidden_anew : (from to : Key) (old new : List ℕ) → IsHiddenAnew from to old new
    → new ≡ hidden_anew from to old
is_hidden_anew from to old new p =
    let whole : length old % 16 ≡ 0 = ap (λ (n : ℕ). n % 16) p.1.same_size ∙ p.1.whole_blocks in
    same_anew from to old new (hidden_anew from to old) p (hidden_anew_hides from to old whole)

is_salted_anew : (from to : Key) (old new : List ℕ) → IsSaltedAnew from to old new
    → new ≡ salted_anew from to old
is_salted_anew from to old new p =
    same_salted_anew from to old new (salted_anew from to old) p (salted_anew_is from to old)

is_tunnel_anew : (from to : Key) (old new : List ℕ) → IsTunnelAnew from to old new
    → new ≡ tunnel_anew from to old
is_tunnel_anew from to old new p =
    same_tunnel_anew from to old new (tunnel_anew from to old) p (tunnel_anew_is from to old)

pub value_anew-salt : (from to : Key) (salting : Option Salting) (s : Salting) (old new : List ℕ)
    → salting ≡ Some s → s ≡ Salt → IsSaltedAnew from to old new → new ≡ value_anew from to salting old
value_anew-salt from to salting s old new is salt p =
    is_salted_anew from to old new p
    ∙ ap (λ (x : Salting). value_anew from to (Some x) old) (sym salt)
    ∙ ap (λ (o : Option Salting). value_anew from to o old) (sym is)

pub value_anew-tag : (from to : Key) (salting : Option Salting) (s : Salting) (old new : List ℕ)
    → salting ≡ Some s → s ≡ TagAndSalt → IsTunnelAnew from to old new → new ≡ value_anew from to salting old
value_anew-tag from to salting s old new is tag p =
    is_tunnel_anew from to old new p
    ∙ ap (λ (x : Salting). value_anew from to (Some x) old) (sym tag)
    ∙ ap (λ (o : Option Salting). value_anew from to o old) (sym is)
