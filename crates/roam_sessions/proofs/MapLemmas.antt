-- Groups are found by their rows.
use Rattle.std.proofs.Common.{◌≡◌, ℕ, true, false, List, Option, Result, Ok, Err, sym, ap, ◌∙◌, subst, inl, inr}
use Rattle.std.specs.Prelude.{nat_eq, IsOk, OnOk}
use Rattle.std.specs.Str.{bytes_eq}
use Rattle.std.specs.Map.{KeepsOthers}
use Rattle.std.specs.Cmp.Lexicographic.{pointwise}
use Rattle.std.proofs.lemmas.Bool.{cases_Bool}
use Rattle.std.proofs.lemmas.Slice.Eq.{bytes_eq-Decides}
use Rattle.indexmap.specs.IndexMap.{IndexMap, UpdatesBy, get_by}
use Rattle.roam_sessions.specs.Maps.{row_at}
use Rattle.roam_sessions.specs.Private.Groups.{PutsRow}
use Rattle.roam_sessions.specs.declared.kept_row.KeptRow.{KeptRow}
use Rattle.roam_sessions.proofs.SameLemmas.{octets-are, octets-same}

apart-way : (a c : List ℕ) → bytes_eq a c ≡ false → bytes_eq c a ≡ false
apart-way a c apart = elim (cases_Bool (bytes_eq c a)) [
  | inl same ↦ absurd (let k : bytes_eq a c ≡ true = octets-same a c (sym (octets-are c a same)) in
      cc (k, apart))
  | inr way ↦ way
]

module _ {Z X H : Type 0} (m n : IndexMap (KeptRow Z) X H) (xs : List ℕ) (w : Option X) where
  -- a key was put, or taken out, by a row
  pub puts-row : UpdatesBy (λ (a b : KeptRow Z). pointwise nat_eq a.octets.items b.octets.items)
      (λ (k : KeptRow Z). pointwise nat_eq xs k.octets.items) m n w
      → PutsRow (row_at m) (row_at n) xs w
  unfolding KeepsOthers
  puts-row updates q = elim (cases_Bool (bytes_eq xs q)) [
    | inl same ↦ (
        let here : xs ≡ q = octets-are xs q same in
        rw same (subst (λ (r : List ℕ). get_by (λ (k : KeptRow Z). pointwise nat_eq r k.octets.items) n ≡ w) here
        updates.1))
    | inr apart ↦ (
        let kept = updates.3 (λ (k : KeptRow Z). pointwise nat_eq q k.octets.items)
        (λ (x y : KeptRow Z) passes. ap (λ (r : List ℕ). pointwise nat_eq r y.octets.items)
        ((bytes_eq-Decides q x.octets.items).0 passes))
        (λ (k : KeptRow Z) passes. (
        let key : xs ≡ k.octets.items = (bytes_eq-Decides xs k.octets.items).0 passes in
        ap (pointwise nat_eq q) (sym key) ∙ apart-way xs q apart)) in
        rw apart kept)
  ]

-- what a call that can't fail promises where it doesn't
pub ok-gives : {X E : Type 0} (P : Type 0) (r : Result X E) → IsOk r → OnOk r P → P
ok-gives P (Ok x) is h = h
ok-gives P (Err e) is h = absurd (cc is)
