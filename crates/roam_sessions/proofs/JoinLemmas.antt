-- Groups stay groups, where a number comes in behind all others.
use Rattle.std.proofs.Common.{◌≡◌, ◌≢◌, ℕ, ◌+◌, ◌-◌, ◌<◌, ◌≤◌, true, false, List, [], ◌∷◌, ◌++◌, length, Option, Some, None, refl, sym, ap, ◌∙◌, subst, inl, inr, arith, length-append}
use Rattle.std.specs.Prelude.{IsSome, option_map}
use Rattle.std.specs.Str.{bytes_eq}
use Rattle.std.proofs.lemmas.Bool.{cases_Bool, cases_eq, cases_lt}
use Rattle.roam_sessions.specs.Private.Groups.{AreEndsOf, Comes, IsBeside, IsBesideOf, IsGrouped, PlainGroups, PutsRow, ends_behind, if_row, in_group, is_at, newest_of, with_newer_at}
use Rattle.roam_sessions.specs.Private.Tickets.{IsFirst, IsFirstFrom, IsLast, IsLastBelow, all_listed}
use Rattle.roam_sessions.specs.declared.ends.Ends.{Ends}
use Rattle.roam_sessions.specs.declared.neighbours.Beside.{Beside}
use Rattle.roam_wire.specs.Numbered.{PutsAt, tickets_end}
use Rattle.roam_sessions.proofs.GroupLemmas.{beside-stays, ends-stay, from-group, in-none, in-own, in-other, listed-bound, one-row}
use Rattle.roam_sessions.proofs.ListedLemmas.{listed-last, listed-none}
use Rattle.roam_sessions.proofs.NeighbourLemmas.{first-new, first-stays, has-newer, held-below, held-some, last-stays, none-above, none-between}
use Rattle.roam_sessions.proofs.SameLemmas.{octets-are, octets-same}
use Rattle.roam_sessions.proofs.GivenLemmas.{at-is, at-isnt, newer-not-at, older-by-newer}

-- the number n comes into a group, behind what was its newest one
pub record Joins (p r : PlainGroups) (n : ℕ) (row : List ℕ) (older : Option ℕ) : Type 0 where
  pub older_is : older ≡ newest_of (p.ends row)
  pub first : ℕ → Option Beside
  pub puts : PutsAt p.beside first n (Some (record { older = older; newer = None }))
  pub newer : (u : ℕ) → r.beside u ≡ option_map (with_newer_at older (Some n) u) (first u)
  pub ends : PutsRow p.ends r.ends row (Some (ends_behind n (p.ends row)))

module _ (f g : ℕ → Option (List ℕ)) (p r : PlainGroups) (n : ℕ) (row : List ℕ) (older : Option ℕ)
    (grouped : IsGrouped f p) (comes : Comes f g n (Some row)) (joins : Joins p r n row older)
  where
    F : ℕ → Option (List ℕ)
    F = in_group f row

    G : ℕ → Option (List ℕ)
    G = in_group g row

    group-comes : PutsAt F G n (Some row)
    unfolding F G
    group-comes = record {
      changed = in-own g n row comes.puts.changed;
      others = λ u ne. ap (if_row row) (comes.puts.others u ne);
    }

    free : (u : ℕ) → n ≤ u → F u ≡ None
    unfolding F
    free u le = in-none f u row (comes.free u le)

    others-stay : (other : List ℕ) → bytes_eq other row ≡ false → (u : ℕ) → in_group g other u ≡ in_group f other u
    others-stay other apart u = elim (cases_eq u n) [
      | inl same ↦ (
          let now : g u ≡ Some row = ap g same ∙ comes.puts.changed in
          in-other g u row other now apart ∙ sym (in-none f u other (comes.free u (omega (arith, same)))))
      | inr ne ↦ ap (if_row other) (comes.puts.others u ne)
    ]

    -- the newest one so far
    newest-so-far : IsLastBelow F n older
    unfolding F
    newest-so-far = subst (λ (o : Option ℕ). IsLastBelow F n o) (sym joins.older_is)
        (by (p.ends row) (grouped.ends row))
      where
        by : (o : Option Ends) → AreEndsOf f row o → IsLastBelow F n (newest_of o)
        by None none = λ u lt. none u
        by (Some e) ends = record {
          below = held-below F G n row group-comes free e.newest ends.newest.held;
          held = ends.newest.held;
          none_behind = λ u lt less. ends.newest.none_behind u lt
              (let w = comes.within in omega (arith, w, less));
        }

    not-next : is_at older n ≡ false
    not-next = by older newest-so-far
      where
        by : (o : Option ℕ) → IsLastBelow F n o → is_at o n ≡ false
        by None last = refl
        by (Some v) last = elim (cases_Bool (is_at (Some v) n)) [
          | inl same ↦ absurd (let e : Some v ≡ Some n = at-is (Some v) n same in
              let k : v ≡ n = cc e in omega (arith, k, last.below))
          | inr isnt ↦ isnt
        ]

    new : Beside
    new = record { older = older; newer = None }

    here : r.beside n ≡ Some new
    unfolding new
    here = joins.newer n ∙ ap (option_map (with_newer_at older (Some n) n)) joins.puts.changed ∙ rw not-next refl

    others : (u : ℕ) → u ≢ n → r.beside u ≡ option_map (with_newer_at older (Some n) u) (p.beside u)
    others u ne = joins.newer u ∙ ap (option_map (with_newer_at older (Some n) u)) (joins.puts.others u ne)

    newer-after : (u : ℕ) (y : Beside) → f u ≡ Some row → IsBeside f row u y
        → IsFirstFrom G (u + 1) (with_newer_at older (Some n) u y).newer
    unfolding F
    newer-after u y at beside = elim (cases_Bool (is_at older u)) [
      | inl given ↦ (
          let last : IsLast F n u = subst (λ (o : Option ℕ). IsLastBelow F n o) (at-is older u given) newest-so-far in
          let lt = last.below in
          let first : IsFirst G (u + 1) n =
          first-new F G n row group-comes free (u + 1) (omega (arith, lt))
          (none-between F G n row group-comes free u last) in
          rw given first)
      | inr isnt ↦ (
          let held : IsSome (F u) = held-some (F u) row (in-own f u row at) in
          rw isnt (has-newer F G n row group-comes free u older y.newer held (at-isnt older u isnt) newest-so-far
          beside.newer))
    ]

    below-n : (u : ℕ) (other : List ℕ) → f u ≡ Some other → u < n
    below-n u other at = elim (cases_lt u n) [
      | inl lt ↦ lt
      | inr ge ↦ absurd (let k = comes.free u ge in cc (k, at))
    ]

    own-beside : (u : ℕ) → u ≢ n → f u ≡ Some row → IsBesideOf g row u (r.beside u)
    unfolding F G
    own-beside u ne at = by (p.beside u) refl (grouped.beside u row at)
      where
        by : (o : Option Beside) → p.beside u ≡ o → IsBesideOf f row u o → IsBesideOf g row u (r.beside u)
        by None none beside = absurd beside
        by (Some y) there beside = (
            let now : r.beside u ≡ Some (with_newer_at older (Some n) u y) =
            others u ne ∙ ap (option_map (with_newer_at older (Some n) u)) there in
            let lt = below-n u row at in
            subst (λ (o : Option Beside). IsBesideOf g row u o) (sym now) (record {
              older = subst (λ (o : Option ℕ). IsLastBelow G u o) (sym (older-by-newer older (Some n) u y))
                  (last-stays F G n row group-comes free u y.older (omega (arith, lt)) beside.older);
              newer = newer-after u y at beside;
            }))

    new-beside : IsBesideOf g row n (r.beside n)
    unfolding G new
    new-beside = subst (λ (o : Option Beside). IsBesideOf g row n o) (sym here) (record {
      older = last-stays F G n row group-comes free n older (omega arith) newest-so-far;
      newer = λ u le. none-above F G n row group-comes free u le;
    })

    -- the newest one is of this group
    not-older : (u : ℕ) (other : List ℕ) → f u ≡ Some other → bytes_eq row other ≡ false → is_at older u ≡ false
    unfolding F
    not-older u other at apart = elim (cases_Bool (is_at older u)) [
      | inl given ↦ (
          let last : IsLast F n u =
          subst (λ (o : Option ℕ). IsLastBelow F n o) (at-is older u given) newest-so-far in
          absurd (one-row f u row other (from-group f u row last.held) at apart))
      | inr isnt ↦ isnt
    ]

    other-beside : (u : ℕ) (other : List ℕ) → f u ≡ Some other → bytes_eq row other ≡ false
        → bytes_eq other row ≡ false → u ≢ n → IsBesideOf g other u (r.beside u)
    other-beside u other at apart way ne = by (p.beside u) refl (grouped.beside u other at)
      where
        by : (o : Option Beside) → p.beside u ≡ o → IsBesideOf f other u o → IsBesideOf g other u (r.beside u)
        by None none beside = absurd beside
        by (Some y) there beside = (
            let now : r.beside u ≡ Some y =
            others u ne ∙ ap (option_map (with_newer_at older (Some n) u)) there
            ∙ ap (λ (z : Beside). Some z) (newer-not-at older (Some n) u y (not-older u other at apart)) in
            subst (λ (o : Option Beside). IsBesideOf g other u o) (sym now)
            (beside-stays f g other (others-stay other way) u (Some y) beside))

    -- the ends of the group
    newest-now : IsLast G tickets_end n
    newest-now = record {
      below = (let w = comes.within in omega (arith, w));
      held = held-some (G n) row group-comes.changed;
      none_behind = λ u lt less. none-above F G n row group-comes free u (omega (arith, lt));
    }

    listed-now : all_listed G ≡ all_listed F ++ row ∷ []
    listed-now = listed-last F G 0 tickets_end n row group-comes.changed group-comes.others free (omega arith)
        (let w = comes.within in omega (arith, w))

    count-now : length (all_listed G) ≡ length (all_listed F) + 1
    count-now = ap (λ (l : List (List ℕ)). length l) listed-now ∙ length-append (all_listed F) (row ∷ [])

    few : length (all_listed F) ≤ n - 0
    few = listed-bound F 0 tickets_end n free

    own-ends : AreEndsOf g row (Some (ends_behind n (p.ends row)))
    unfolding F G tickets_end
    own-ends = by (p.ends row) (grouped.ends row)
      where
        by : (o : Option Ends) → AreEndsOf f row o → AreEndsOf g row (Some (ends_behind n o))
        by None none = record {
          oldest = first-new F G n row group-comes free 0 (omega arith) (λ u le lt. none u);
          newest = newest-now;
          count = (
              let empty : length (all_listed F) ≡ 0 =
              ap (λ (l : List (List ℕ)). length l) (listed-none F 0 tickets_end (λ u le. none u)) in
              omega (arith, count-now, empty));
        }
        by (Some e) ends = record {
          oldest = first-stays F G n row group-comes free 0 e.oldest ends.oldest;
          newest = newest-now;
          count = (
              let w = comes.within in
              omega (arith, count-now, ends.count, few, w));
        }

    apart-way : (a c : List ℕ) → bytes_eq a c ≡ false → bytes_eq c a ≡ false
    apart-way a c apart = elim (cases_Bool (bytes_eq c a)) [
      | inl same ↦ absurd (let k : bytes_eq a c ≡ true = octets-same a c (sym (octets-are c a same)) in
          cc (k, apart))
      | inr way ↦ way
    ]

    ends-after : (other : List ℕ) → AreEndsOf g other (r.ends other)
    ends-after other = elim (cases_Bool (bytes_eq row other)) [
      | inl same ↦ (
          let now : r.ends other ≡ Some (ends_behind n (p.ends row)) = joins.ends other ∙ rw same refl in
          subst (λ (l : List ℕ). AreEndsOf g l (r.ends other)) (octets-are row other same)
          (subst (λ (o : Option Ends). AreEndsOf g row o) (sym now) own-ends))
      | inr apart ↦ (
          let now : r.ends other ≡ p.ends other = joins.ends other ∙ rw apart refl in
          subst (λ (o : Option Ends). AreEndsOf g other o) (sym now)
          (ends-stay f g other (others-stay other (apart-way row other apart)) (p.ends other)
          (grouped.ends other)))
    ]

    beside-after : (u : ℕ) (other : List ℕ) → g u ≡ Some other → IsBesideOf g other u (r.beside u)
    beside-after u other at = elim (cases_eq u n) [
      | inl same ↦ (
          let now : Some row ≡ Some other = sym (ap g same ∙ comes.puts.changed) ∙ at in
          let rows : row ≡ other = cc now in
          subst (λ (l : List ℕ). IsBesideOf g l u (r.beside u)) rows
          (subst (λ (v : ℕ). IsBesideOf g row v (r.beside v)) (sym same) new-beside))
      | inr ne ↦ (
          let was : f u ≡ Some other = sym (comes.puts.others u ne) ∙ at in
          elim (cases_Bool (bytes_eq row other)) [
            | inl same ↦ (
                let rows = octets-are row other same in
                subst (λ (l : List ℕ). IsBesideOf g l u (r.beside u)) rows
                (own-beside u ne (was ∙ ap (λ (l : List ℕ). Some l) (sym rows))))
            | inr apart ↦ other-beside u other was apart (apart-way row other apart) ne
          ])
    ]

    within-after : (u : ℕ) (other : List ℕ) → g u ≡ Some other → u < tickets_end
    within-after u other at = elim (cases_eq u n) [
      | inl same ↦ (let w = comes.within in omega (arith, w, same))
      | inr ne ↦ grouped.within u other (sym (comes.puts.others u ne) ∙ at)
    ]

    pub grouped-joined : IsGrouped g r
    grouped-joined = record { ends = ends-after; beside = beside-after; within = within-after }
