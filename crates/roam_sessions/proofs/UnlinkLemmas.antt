-- Groups stay groups, where a number goes.
use Rattle.std.proofs.Common.{◌≡◌, ◌≢◌, ℕ, ◌+◌, ◌-◌, ◌<◌, ◌≤◌, false, List, length, Option, Some, None, refl, sym, ap, ◌∙◌, subst, inl, inr, arith}
use Rattle.std.specs.Prelude.{IsSome, option_map, if◌then◌else◌}
use Rattle.std.specs.Str.{bytes_eq}
use Rattle.std.proofs.lemmas.Bool.{cases_Bool, cases_eq}
use Rattle.roam_sessions.specs.Private.Groups.{AreEnds, AreEndsOf, IsBeside, IsBesideOf, IsGrouped, PlainGroups, PutsRow, ends_between, ends_left, if_row, in_group, is_at, with_newer_at, with_older_at}
use Rattle.roam_sessions.specs.Private.Tickets.{IsFirst, IsFirstFrom, IsLast, IsLastBelow, all_listed}
use Rattle.roam_sessions.specs.declared.ends.Ends.{Ends}
use Rattle.roam_sessions.specs.declared.neighbours.Beside.{Beside}
use Rattle.roam_wire.specs.Numbered.{PutsAt, tickets_end}
use Rattle.roam_sessions.proofs.GivenLemmas.{apart-way, at-is, at-isnt, newer-by-older, newer-not-at, newer-of, none-left, older-by-newer, older-not-at, older-of}
use Rattle.roam_sessions.proofs.GroupLemmas.{beside-stays, beside-there, ends-stay, ends-there, from-group, in-other, in-own, one-row}
use Rattle.roam_sessions.proofs.ListedLemmas.{length-gone}
use Rattle.roam_sessions.proofs.NeighbourLemmas.{first-kept, first-through, former-is, former-only, held-some, last-kept, last-through, newest-is, newest-isnt, next-is, next-only, oldest-is, oldest-isnt}
use Rattle.roam_sessions.proofs.SameLemmas.{octets-are}

-- the number t of a group goes, and its neighbours are each other's
pub record Unlinks (p r : PlainGroups) (t : ℕ) (row : List ℕ) (e : Ends) (b : Beside) : Type 0 where
  pub there : p.ends row ≡ Some e
  pub was : p.beside t ≡ Some b
  pub first : ℕ → Option Beside
  pub second : ℕ → Option Beside
  pub takes : PutsAt p.beside first t None
  pub newer : (u : ℕ) → second u ≡ option_map (with_newer_at b.older b.newer u) (first u)
  pub older : (u : ℕ) → r.beside u ≡ option_map (with_older_at b.newer b.older u) (second u)
  pub ends : PutsRow p.ends r.ends row (ends_left b e)

module _ (f g : ℕ → Option (List ℕ)) (p r : PlainGroups) (t : ℕ) (row : List ℕ) (e : Ends) (b : Beside)
    (grouped : IsGrouped f p) (is : f t ≡ Some row) (goes : PutsAt f g t None) (unlinks : Unlinks p r t row e b)
  where
    F : ℕ → Option (List ℕ)
    F = in_group f row

    G : ℕ → Option (List ℕ)
    G = in_group g row

    -- of this group one number goes, of others none
    group-goes : PutsAt F G t None
    unfolding F G
    group-goes = record {
      changed = ap (if_row row) goes.changed;
      others = λ u ne. ap (if_row row) (goes.others u ne);
    }

    others-stay : (other : List ℕ) → bytes_eq other row ≡ false → (u : ℕ) → in_group g other u ≡ in_group f other u
    others-stay other apart u = elim (cases_eq u t) [
      | inl same ↦ (
          let gone : g u ≡ None = ap g same ∙ goes.changed in
          let here : f u ≡ Some row = ap f same ∙ is in
          ap (if_row other) gone ∙ sym (in-other f u row other here apart))
      | inr ne ↦ ap (if_row other) (goes.others u ne)
    ]

    held-t : IsSome (F t)
    unfolding F
    held-t = held-some (in_group f row t) row (in-own f t row is)

    within-t : t < tickets_end
    within-t = grouped.within t row is

    ends-are : AreEnds f row e
    ends-are = ends-there f row (p.ends row) e unlinks.there (grouped.ends row)

    beside-are : IsBeside f row t b
    beside-are = beside-there f row t (p.beside t) b unlinks.was (grouped.beside t row is)

    -- the neighbours of numbers of the group
    older-t : IsLastBelow F t b.older
    unfolding F
    older-t = beside-are.older

    newer-t : IsFirstFrom F (t + 1) b.newer
    unfolding F
    newer-t = beside-are.newer

    both : ℕ → Beside → Beside
    both u y = with_older_at b.newer b.older u (with_newer_at b.older b.newer u y)

    others : (u : ℕ) → u ≢ t → r.beside u ≡ option_map (both u) (p.beside u)
    unfolding both
    others u ne = unlinks.older u ∙ ap (option_map (with_older_at b.newer b.older u)) (unlinks.newer u
        ∙ ap (option_map (with_newer_at b.older b.newer u)) (unlinks.takes.others u ne))
        ∙ joined (p.beside u)
      where
        joined : (o : Option Beside) → option_map (with_older_at b.newer b.older u)
            (option_map (with_newer_at b.older b.newer u) o) ≡ option_map (both u) o
        joined None = refl
        joined (Some y) = refl

    newer-of-both : (u : ℕ) (y : Beside) → (both u y).newer ≡ (if is_at b.older u then b.newer else y.newer)
    unfolding both
    newer-of-both u y = newer-by-older b.newer b.older u (with_newer_at b.older b.newer u y)
        ∙ newer-of b.older b.newer u y

    older-of-both : (u : ℕ) (y : Beside) → (both u y).older ≡ (if is_at b.newer u then b.older else y.older)
    unfolding both
    older-of-both u y =
        older-of b.newer b.older u (with_newer_at b.older b.newer u y)
        ∙ ap (λ (o : Option ℕ). if is_at b.newer u then b.older else o)
        (older-by-newer b.older b.newer u y)

    newer-after : (u : ℕ) (y : Beside) → u ≢ t → f u ≡ Some row → IsBeside f row u y
        → IsFirstFrom G (u + 1) (if is_at b.older u then b.newer else y.newer)
    unfolding F
    newer-after u y ne at beside = elim (cases_Bool (is_at b.older u)) [
      | inl given ↦ (
          let before : b.older ≡ Some u = at-is b.older u given in
          let last : IsLast F t u = subst (λ (o : Option ℕ). IsLastBelow F t o) before older-t in
          let next : y.newer ≡ Some t = next-is F t held-t u y.newer last beside.newer in
          let first : IsFirst F (u + 1) t =
          subst (λ (o : Option ℕ). IsFirstFrom F (u + 1) o) next beside.newer in
          rw given (first-through F G t group-goes (u + 1) b.newer first newer-t))
      | inr isnt ↦ (
          let there : IsSome (F u) = held-some (F u) row (in-own f u row at) in
          let apart : y.newer ≢ Some t = λ same. next-only F t held-t u b.older there
          (at-isnt b.older u isnt) older-t
          (subst (λ (o : Option ℕ). IsFirstFrom F (u + 1) o) same beside.newer) in
          rw isnt (first-kept F G t group-goes (u + 1) y.newer apart beside.newer))
    ]

    older-after : (u : ℕ) (y : Beside) → u ≢ t → f u ≡ Some row → IsBeside f row u y
        → IsLastBelow G u (if is_at b.newer u then b.older else y.older)
    unfolding F
    older-after u y ne at beside = elim (cases_Bool (is_at b.newer u)) [
      | inl given ↦ (
          let behind : b.newer ≡ Some u = at-is b.newer u given in
          let first : IsFirst F (t + 1) u =
          subst (λ (o : Option ℕ). IsFirstFrom F (t + 1) o) behind newer-t in
          let before : y.older ≡ Some t = former-is F t held-t u y.older first beside.older in
          let last : IsLast F u t = subst (λ (o : Option ℕ). IsLastBelow F u o) before beside.older in
          rw given (last-through F G t group-goes u b.older last older-t))
      | inr isnt ↦ (
          let there : IsSome (F u) = held-some (F u) row (in-own f u row at) in
          let apart : y.older ≢ Some t = λ same. former-only F t held-t u b.newer
          there (at-isnt b.newer u isnt) newer-t
          (subst (λ (o : Option ℕ). IsLastBelow F u o) same beside.older) in
          rw isnt (last-kept F G t group-goes u y.older apart beside.older))
    ]

    -- a neighbour of t is of its group
    not-older : (u : ℕ) (other : List ℕ) → f u ≡ Some other → bytes_eq row other ≡ false → is_at b.older u ≡ false
    unfolding F
    not-older u other at apart = elim (cases_Bool (is_at b.older u)) [
      | inl given ↦ (
          let last : IsLast F t u =
          subst (λ (o : Option ℕ). IsLastBelow F t o) (at-is b.older u given) older-t in
          absurd (one-row f u row other (from-group f u row last.held) at apart))
      | inr isnt ↦ isnt
    ]

    not-newer : (u : ℕ) (other : List ℕ) → f u ≡ Some other → bytes_eq row other ≡ false → is_at b.newer u ≡ false
    unfolding F
    not-newer u other at apart = elim (cases_Bool (is_at b.newer u)) [
      | inl given ↦ (
          let first : IsFirst F (t + 1) u =
          subst (λ (o : Option ℕ). IsFirstFrom F (t + 1) o) (at-is b.newer u given) newer-t in
          absurd (one-row f u row other (from-group f u row first.held) at apart))
      | inr isnt ↦ isnt
    ]

    -- the neighbours of a number of the group, once t went
    own-beside : (u : ℕ) → u ≢ t → f u ≡ Some row → IsBesideOf g row u (r.beside u)
    unfolding G
    own-beside u ne at = by (p.beside u) refl (grouped.beside u row at)
      where
        by : (o : Option Beside) → p.beside u ≡ o → IsBesideOf f row u o → IsBesideOf g row u (r.beside u)
        by None none beside = absurd beside
        by (Some y) there beside = (
            let now : r.beside u ≡ Some (both u y) = others u ne ∙ ap (option_map (both u)) there in
            subst (λ (o : Option Beside). IsBesideOf g row u o) (sym now) (record {
              older = subst (λ (o : Option ℕ). IsLastBelow G u o) (sym (older-of-both u y))
                  (older-after u y ne at beside);
              newer = subst (λ (o : Option ℕ). IsFirstFrom G (u + 1) o) (sym (newer-of-both u y))
                  (newer-after u y ne at beside);
            }))

    -- and of one of another group
    other-beside : (u : ℕ) (other : List ℕ) → f u ≡ Some other → bytes_eq row other ≡ false
        → bytes_eq other row ≡ false → u ≢ t → IsBesideOf g other u (r.beside u)
    unfolding both
    other-beside u other at apart way ne = by (p.beside u) refl (grouped.beside u other at)
      where
        by : (o : Option Beside) → p.beside u ≡ o → IsBesideOf f other u o → IsBesideOf g other u (r.beside u)
        by None none beside = absurd beside
        by (Some y) there beside = (
            let kept : both u y ≡ y =
            ap (with_older_at b.newer b.older u) (newer-not-at b.older b.newer u y (not-older u other at apart))
            ∙ older-not-at b.newer b.older u y (not-newer u other at apart) in
            let now : r.beside u ≡ Some y =
            others u ne ∙ ap (option_map (both u)) there ∙ ap (λ (z : Beside). Some z) kept in
            subst (λ (o : Option Beside). IsBesideOf g other u o) (sym now)
            (beside-stays f g other (others-stay other way) u (Some y) beside))

    -- the ends of the group
    count-after : length (all_listed G) ≡ e.count - 1
    unfolding F
    count-after = (
        let less = length-gone F G 0 tickets_end t held-t group-goes.changed group-goes.others (omega arith)
        (omega (arith, within-t)) in
        omega (arith, less, ends-are.count))

    oldest-here : b.older ≡ None → IsFirst F 0 t
    unfolding F
    oldest-here none = (
        let below : (u : ℕ) → u < t → F u ≡ None =
        subst (λ (o : Option ℕ). IsLastBelow F t o) none older-t in
        let same : Some e.oldest ≡ Some t = oldest-is F t held-t (Some e.oldest) below ends-are.oldest in
        subst (λ (o : Option ℕ). IsFirstFrom F 0 o) same ends-are.oldest)

    newest-here : b.newer ≡ None → IsLast F tickets_end t
    unfolding F
    newest-here none = (
        let above : (u : ℕ) → t + 1 ≤ u → F u ≡ None =
        subst (λ (o : Option ℕ). IsFirstFrom F (t + 1) o) none newer-t in
        let same : Some e.newest ≡ Some t =
        newest-is F t held-t tickets_end (Some e.newest) within-t above ends-are.newest in
        subst (λ (o : Option ℕ). IsLastBelow F tickets_end o) same ends-are.newest)

    oldest-kept : (v : ℕ) → b.older ≡ Some v → IsFirst G 0 e.oldest
    unfolding F
    oldest-kept v older = (
        let last : IsLast F t v = subst (λ (o : Option ℕ). IsLastBelow F t o) older older-t in
        first-kept F G t group-goes 0 (Some e.oldest)
        (λ same. oldest-isnt F t held-t v last
        (subst (λ (o : Option ℕ). IsFirstFrom F 0 o) same ends-are.oldest))
        ends-are.oldest)

    newest-kept : (v : ℕ) → b.newer ≡ Some v → IsLast G tickets_end e.newest
    unfolding F
    newest-kept v newer = (
        let first : IsFirst F (t + 1) v = subst (λ (o : Option ℕ). IsFirstFrom F (t + 1) o) newer newer-t in
        let live : v < tickets_end = grouped.within v row (from-group f v row first.held) in
        last-kept F G t group-goes tickets_end (Some e.newest)
        (λ same. newest-isnt F t held-t tickets_end v first live
        (subst (λ (o : Option ℕ). IsLastBelow F tickets_end o) same ends-are.newest))
        ends-are.newest)

    own-ends : AreEndsOf g row (ends_left b e)
    unfolding G
    own-ends = by b.older b.newer refl refl
      where
        by : (o n : Option ℕ) → b.older ≡ o → b.newer ≡ n → AreEndsOf g row (ends_between o n e)
        by None None older newer = none-left F G t group-goes
            (subst (λ (k : Option ℕ). IsLastBelow F t k) older older-t)
            (subst (λ (k : Option ℕ). IsFirstFrom F (t + 1) k) newer newer-t)
        by None (Some n) older newer = record {
          oldest = first-through F G t group-goes 0 (Some n) (oldest-here older)
              (subst (λ (o : Option ℕ). IsFirstFrom F (t + 1) o) newer newer-t);
          newest = newest-kept n newer;
          count = count-after;
        }
        by (Some o) None older newer = record {
          oldest = oldest-kept o older;
          newest = last-through F G t group-goes tickets_end (Some o) (newest-here newer)
              (subst (λ (k : Option ℕ). IsLastBelow F t k) older older-t);
          count = count-after;
        }
        by (Some o) (Some n) older newer = record {
          oldest = oldest-kept o older;
          newest = newest-kept n newer;
          count = count-after;
        }

    ends-after : (other : List ℕ) → AreEndsOf g other (r.ends other)
    ends-after other = elim (cases_Bool (bytes_eq row other)) [
      | inl same ↦ (
          let here : r.ends other ≡ ends_left b e = unlinks.ends other ∙ rw same refl in
          subst (λ (l : List ℕ). AreEndsOf g l (r.ends other)) (octets-are row other same)
          (subst (λ (o : Option Ends). AreEndsOf g row o) (sym here) own-ends))
      | inr apart ↦ (
          let here : r.ends other ≡ p.ends other = unlinks.ends other ∙ rw apart refl in
          subst (λ (o : Option Ends). AreEndsOf g other o) (sym here)
          (ends-stay f g other (others-stay other (apart-way row other apart)) (p.ends other)
          (grouped.ends other)))
    ]

    beside-after : (u : ℕ) (other : List ℕ) → g u ≡ Some other → IsBesideOf g other u (r.beside u)
    beside-after u other at = elim (cases_eq u t) [
      | inl same ↦ absurd (let k : g u ≡ None = ap g same ∙ goes.changed in cc (k, at))
      | inr ne ↦ (
          let was : f u ≡ Some other = sym (goes.others u ne) ∙ at in
          elim (cases_Bool (bytes_eq row other)) [
            | inl same ↦ (
                let rows = octets-are row other same in
                subst (λ (l : List ℕ). IsBesideOf g l u (r.beside u)) rows
                (own-beside u ne (was ∙ ap (λ (l : List ℕ). Some l) (sym rows))))
            | inr apart ↦ other-beside u other was apart (apart-way row other apart) ne
          ])
    ]

    within-after : (u : ℕ) (other : List ℕ) → g u ≡ Some other → u < tickets_end
    within-after u other at = elim (cases_eq u t) [
      | inl same ↦ absurd (let k : g u ≡ None = ap g same ∙ goes.changed in cc (k, at))
      | inr ne ↦ grouped.within u other (sym (goes.others u ne) ∙ at)
    ]

    pub grouped-unlinked : IsGrouped g r
    grouped-unlinked = record { ends = ends-after; beside = beside-after; within = within-after }
