-- The groups of a facet stay groups, where a number comes in or goes, and where others do in the groups of other facets.
use Rattle.std.proofs.Common.{◌≡◌, ◌≢◌, ℕ, true, List, Option, Some, None, refl, sym, ap, ◌∙◌, subst, inl, inr, arith}
use Rattle.std.specs.Prelude.{option_map, ◌==◌, if◌then◌else◌}
use Rattle.std.proofs.lemmas.Bool.{cases_Bool}
use Rattle.std.proofs.lemmas.Bool.Decides.{nat_tests}
use Rattle.roam_wire.specs.Numbered.{PutsAt, tickets_end}
use Rattle.roam_sessions.specs.Private.Groups.{AreEndsOf, Comes, Goes, IsBesideOf, IsGrouped, PlainGroups, PutsRow, ends_left, newest_of, with_newer_at, with_older_at}
use Rattle.roam_sessions.specs.Private.Links.{no_beside, no_number}
use Rattle.roam_sessions.specs.declared.ends.Ends.{Ends}
use Rattle.roam_sessions.specs.declared.neighbours.Beside.{Beside}
use Rattle.roam_sessions.proofs.GivenLemmas.{at-itself}
use Rattle.roam_sessions.proofs.GroupLemmas.{from-group}
use Rattle.roam_sessions.proofs.LinkLemmas.{at-other, kept-older, older-here}
use Rattle.roam_sessions.proofs.UnlinkLemmas.{grouped-unlinked}

abbrev pub groups : (List ℕ → Option Ends) → (ℕ → Option Beside) → PlainGroups
groups e b = record { ends = e; beside = b }

-- the ends are the same, and so are the neighbours of each number that is in a group
pub regrouped : (f : ℕ → Option (List ℕ)) (p r : PlainGroups) → ((row : List ℕ) → r.ends row ≡ p.ends row)
    → ((u : ℕ) (row : List ℕ) → f u ≡ Some row → r.beside u ≡ p.beside u) → IsGrouped f p → IsGrouped f r
regrouped f p r ends beside grouped = record {
  ends = λ row. subst (λ (o : Option Ends). AreEndsOf f row o) (sym (ends row)) (grouped.ends row);
  beside = λ t row is. subst (λ (o : Option Beside). IsBesideOf f row t o) (sym (beside t row is))
      (grouped.beside t row is);
  within = grouped.within;
}

-- the numbers of neighbours can be written
pub number-below : (f g : ℕ → Option (List ℕ)) (n : ℕ) (w : Option (List ℕ)) → Comes f g n w
    → Some n ≢ Some no_number
unfolding tickets_end no_number
number-below f g n w comes is = absurd (let same : n ≡ no_number = cc is in omega (arith, comes.within, same))

pub older-below : (f g : ℕ → Option (List ℕ)) (p : PlainGroups) (n : ℕ) (row : List ℕ) → IsGrouped f p
    → Comes f g n (Some row) → newest_of (p.ends row) ≢ Some no_number
unfolding tickets_end no_number
older-below f g p n row grouped comes = by (p.ends row) (grouped.ends row)
  where
    by : (o : Option Ends) → AreEndsOf f row o → newest_of o ≢ Some no_number
    by None none is = absurd (cc is)
    by (Some e) ends is = absurd (
        let same : e.newest ≡ no_number = cc is in
        let there = from-group f e.newest row ends.newest.held in
        let gone = comes.free e.newest (omega (arith, comes.within, same)) in
        cc (there, gone))

-- a number that has no neighbours is given an older one
pub joined-first : (b d : ℕ → Option Beside) (n : ℕ) (older : Option ℕ) → b n ≡ Some no_beside
    → ((u : ℕ) → d u ≡ option_map (with_older_at (Some n) older u) (b u))
    → PutsAt b d n (Some (record { older = older; newer = None }))
joined-first b d n older begun is = record {
  changed = is n ∙ ap (option_map (with_older_at (Some n) older n)) begun
      ∙ ap (λ (b : Beside). Some b) (older-here (Some n) older n no_beside (at-itself n));
  others = λ u ne. is u ∙ kept-older (Some n) older u (b u) (at-other n u ne);
}

-- a number goes, and keeps its neighbours, which are nobody's any more
module _ (f g : ℕ → Option (List ℕ)) (p r : PlainGroups) (second : ℕ → Option Beside) (t : ℕ) (row : List ℕ)
    (e : Ends) (b : Beside)
  where
    cut : (ℕ → Option Beside) → ℕ → Option Beside
    cut x u = if u == t then None else x u

    cut-here : (x : ℕ → Option Beside) → cut x t ≡ None
    unfolding cut
    cut-here x = (let same : (t == t) ≡ true = grind (arith, nat_tests) in rw same refl)

    cut-other : (x : ℕ → Option Beside) (u : ℕ) → u ≢ t → cut x u ≡ x u
    unfolding cut
    cut-other x u ne = elim (cases_Bool (u == t)) [
      | inl same ↦ absurd (let is : u ≡ t = grind (arith, nat_tests) in ne is)
      | inr differs ↦ rw differs refl
    ]

    cut-both : (h : ℕ → Beside → Beside) (x y : ℕ → Option Beside) → ((u : ℕ) → y u ≡ option_map (h u) (x u))
        → (u : ℕ) → cut y u ≡ option_map (h u) (cut x u)
    unfolding cut
    cut-both h x y is u = elim (cases_Bool (u == t)) [
      | inl same ↦ rw same refl
      | inr differs ↦ rw differs (is u)
    ]

    pub linked-parts : IsGrouped f p → Goes f g t (Some row) → p.ends row ≡ Some e → p.beside t ≡ Some b
        → ((u : ℕ) → second u ≡ option_map (with_newer_at b.older b.newer u) (p.beside u))
        → ((u : ℕ) → r.beside u ≡ option_map (with_older_at b.newer b.older u) (second u))
        → PutsRow p.ends r.ends row (ends_left b e) → IsGrouped g r
    linked-parts grouped goes there was newer older ends =
        let q : PlainGroups = record { ends = r.ends; beside = cut r.beside } in
        regrouped g q r (λ other. refl)
        (λ u other at. sym (cut-other r.beside u
        (λ is. absurd (let gone : g u ≡ None = ap g is ∙ goes.puts.changed in cc (gone, at)))))
        (grouped-unlinked f g p q t row e b grouped goes.was goes.puts (record {
          there = there;
          was = was;
          first = cut p.beside;
          second = cut second;
          takes = record { changed = cut-here p.beside; others = λ u ne. cut-other p.beside u ne };
          newer = cut-both (λ u y. with_newer_at b.older b.newer u y) p.beside second newer;
          older = cut-both (λ u y. with_older_at b.newer b.older u y) second r.beside older;
          ends = ends;
        }))

module _ (f g : ℕ → Option (List ℕ)) (e h : List ℕ → Option Ends) (t : ℕ) (w : Option (List ℕ)) where
  -- of several facets, one after the other: a number begins in all, then comes into the group of each
  pub joined-through : (b0 b1 ba bb bz : ℕ → Option Beside) → IsGrouped f (groups e b0) → Comes f g t w
      → PutsAt b0 b1 t (Some no_beside) → ((u : ℕ) → ba u ≡ b1 u)
      → (IsGrouped f (groups e ba) → ba t ≡ Some no_beside → IsGrouped g (groups h bb))
      → ((u : ℕ) → bz u ≡ bb u) → IsGrouped g (groups h bz)
  joined-through b0 b1 ba bb bz grouped comes begins before joins after =
      let ready = regrouped f (groups e b0) (groups e ba) (λ row. refl)
      (λ u row is. before u ∙ begins.others u
      (λ same. absurd (let gone : f u ≡ None = ap f same ∙ comes.free t (omega arith) in cc (gone, is)))) grouped in
      regrouped g (groups h bb) (groups h bz) (λ row. refl) (λ u row is. after u)
      (joins ready (before t ∙ begins.changed))

  -- a number goes out of the group of each, and then ends in all
  pub parted-through : (b0 ba bb bz bo : ℕ → Option Beside) → IsGrouped f (groups e b0) → Goes f g t w
      → ((u : ℕ) → ba u ≡ b0 u) → (IsGrouped f (groups e ba) → IsGrouped g (groups h bb))
      → ((u : ℕ) → bz u ≡ bb u) → PutsAt bz bo t None → IsGrouped g (groups h bo)
  parted-through b0 ba bb bz bo grouped goes before parts after ends =
      let ready = regrouped f (groups e b0) (groups e ba) (λ row. refl) (λ u row is. before u) grouped in
      regrouped g (groups h bb) (groups h bo) (λ row. refl)
      (λ u row is. ends.others u
      (λ same. absurd (let gone : g u ≡ None = ap g same ∙ goes.puts.changed in cc (gone, is))) ∙ after u)
      (parts ready)
