-- What a number and its neighbours are given, and what is left of a group whose only number goes.
use Rattle.std.proofs.Common.{◌≡◌, ◌≢◌, ℕ, ◌+◌, ◌<◌, ◌≤◌, true, false, List, Option, Some, None, refl, sym, ap, ◌∙◌, subst, inl, inr, arith}
use Rattle.std.specs.Prelude.{if◌then◌else◌}
use Rattle.std.specs.Str.{bytes_eq}
use Rattle.std.proofs.lemmas.Bool.{cases_Bool, cases_eq, cases_lt}
use Rattle.std.proofs.lemmas.Bool.Decides.{nat_tests}
use Rattle.roam_sessions.specs.Private.Groups.{is_at, with_newer_at, with_older_at}
use Rattle.roam_sessions.specs.declared.neighbours.Beside.{Beside}
use Rattle.roam_wire.specs.Numbered.{PutsAt}
use Rattle.roam_sessions.proofs.SameLemmas.{octets-are, octets-same}

-- what a number is given as
pub at-itself : (t : ℕ) → is_at (Some t) t ≡ true
at-itself t = grind (arith, nat_tests)

pub at-is : (o : Option ℕ) (u : ℕ) → is_at o u ≡ true → o ≡ Some u
at-is None u h = absurd (cc h)
at-is (Some t) u h = (let e : t ≡ u = grind (arith, nat_tests) in ap Some e)

pub at-isnt : (o : Option ℕ) (u : ℕ) → is_at o u ≡ false → o ≢ Some u
at-isnt o u h e = absurd (let k : is_at (Some u) u ≡ false =
    subst (λ (p : Option ℕ). is_at p u ≡ false) e h in cc (k, at-itself u))

pub newer-of : (at newer : Option ℕ) (u : ℕ) (x : Beside)
    → (with_newer_at at newer u x).newer ≡ (if is_at at u then newer else x.newer)
newer-of at newer u x = elim (cases_Bool (is_at at u))
    [ inl is ↦ rw is refl | inr isnt ↦ rw isnt refl ]

pub older-by-newer : (at newer : Option ℕ) (u : ℕ) (x : Beside)
    → (with_newer_at at newer u x).older ≡ x.older
older-by-newer at newer u x = elim (cases_Bool (is_at at u))
    [ inl is ↦ rw is refl | inr isnt ↦ rw isnt refl ]

pub older-of : (at older : Option ℕ) (u : ℕ) (x : Beside)
    → (with_older_at at older u x).older ≡ (if is_at at u then older else x.older)
older-of at older u x = elim (cases_Bool (is_at at u))
    [ inl is ↦ rw is refl | inr isnt ↦ rw isnt refl ]

pub newer-by-older : (at older : Option ℕ) (u : ℕ) (x : Beside)
    → (with_older_at at older u x).newer ≡ x.newer
newer-by-older at older u x = elim (cases_Bool (is_at at u))
    [ inl is ↦ rw is refl | inr isnt ↦ rw isnt refl ]

-- where no neighbour is given to a number, it keeps those that it has
pub newer-not-at : (at newer : Option ℕ) (u : ℕ) (x : Beside) → is_at at u ≡ false
    → with_newer_at at newer u x ≡ x
newer-not-at at newer u x isnt = rw isnt refl

pub older-not-at : (at older : Option ℕ) (u : ℕ) (x : Beside) → is_at at u ≡ false
    → with_older_at at older u x ≡ x
older-not-at at older u x isnt = rw isnt refl

-- where all before and behind a number are gone, and it goes too, none is left
pub none-left : (F G : ℕ → Option (List ℕ)) (t : ℕ) → PutsAt F G t None → ((v : ℕ) → v < t → F v ≡ None)
    → ((v : ℕ) → t + 1 ≤ v → F v ≡ None) → (u : ℕ) → G u ≡ None
none-left F G t goes below above u = elim (cases_eq u t) [
  | inl same ↦ ap G same ∙ goes.changed
  | inr ne ↦ goes.others u ne ∙ elim (cases_lt u t) [
    | inl lt ↦ below u lt
    | inr ge ↦ above u (omega arith)
  ]
]

-- octets that are others than some are so the other way round too
pub apart-way : (a c : List ℕ) → bytes_eq a c ≡ false → bytes_eq c a ≡ false
apart-way a c apart = elim (cases_Bool (bytes_eq c a)) [
  | inl same ↦ absurd (let k : bytes_eq a c ≡ true = octets-same a c (sym (octets-are c a same)) in
      cc (k, apart))
  | inr way ↦ way
]
