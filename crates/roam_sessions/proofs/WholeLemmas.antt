-- The sessions of a peer, and the one that makes way.
use Rattle.std.proofs.Common.{◌≡◌, ℕ, ◌<◌, ◌≤◌, ◌==◌, Bool, true, false, List, [], ◌∷◌, length, Option, Some, None, refl, sym, ap, ◌∙◌, subst, inl, inr, arith}
use Rattle.std.specs.Prelude.{◌&&◌, IsSome, filter, nat_le, not, option_and_then}
use Rattle.std.proofs.lemmas.Bool.{cases_Bool, cases_eq, cases_lt, not_from_false}
use Rattle.std.proofs.lemmas.Bool.Decides.{nat_tests}
use Rattle.roam_wire.specs.Numbered.{PutsAt, tickets_end}
use Rattle.roam_sessions.specs.Facets.{masked, rows_under}
use Rattle.roam_sessions.specs.Private.Groups.{AreEnds, AreEndsOf, IsGrouped, IsOldestOfMost, PlainGroups, in_group}
use Rattle.roam_sessions.specs.Private.Row.{row_text, row_under}
use Rattle.roam_sessions.specs.Private.Tickets.{IsOneOf, all_listed}
use Rattle.roam_sessions.specs.Sessions.{Asked, Session, agrees, count_of_peer, has_most, no_nas, without_agreeing, without_first, without_peer}
use Rattle.roam_sessions.specs.declared.ends.Ends.{Ends}
use Rattle.roam_sessions.proofs.FacetLemmas.{agreeing-counted, agrees-held}
use Rattle.roam_sessions.proofs.GroupLemmas.{ends-there, from-group}
use Rattle.roam_sessions.proofs.ListedTestLemmas.{all-pass, all-stay, each-passes, first-gone}
use Rattle.roam_sessions.proofs.NeighbourLemmas.{held-some}
use Rattle.roam_sessions.proofs.SameLemmas.{same-number}

-- the sessions of a peer
abbrev pub of_peer : ℕ → Asked
of_peer peer = record { peer = peer; nas = no_nas; id = None }

and-true : (b : Bool) → (b && true) ≡ b
and-true true = refl
and-true false = refl

peer-agrees : (peer : ℕ) (s : Session) → agrees (of_peer peer) s ≡ (peer == s.peer)
peer-agrees peer s =
    and-true (peer == s.peer && true && true && true) ∙ and-true (peer == s.peer && true && true)
    ∙ and-true (peer == s.peer && true) ∙ and-true (peer == s.peer)

turned : (a b : ℕ) → (a == b) ≡ (b == a)
turned a b = elim (cases_eq a b) [
  | inl is ↦ (let l : (a == b) ≡ true = grind (arith, nat_tests) in
      let r : (b == a) ≡ true = grind (arith, nat_tests) in l ∙ sym r)
  | inr ne ↦ (let l : (a == b) ≡ false = grind (arith, nat_tests) in
      let r : (b == a) ≡ false = grind (arith, nat_tests) in l ∙ sym r)
]

count-filter : (p r : Session → Bool) (xs : List Session) → ((s : Session) → p s ≡ r s)
    → length (filter p xs) ≡ length (filter r xs)
count-filter p r [] same = refl
count-filter p r (x ∷ xs) same = elim (cases_Bool (r x)) [
  | inl passes ↦ (
      let first : p x ≡ true = same x ∙ passes in
      let rest = count-filter p r xs same in
      rw (first, passes) (omega (arith, rest)))
  | inr fails ↦ (
      let first : p x ≡ false = same x ∙ fails in
      let rest = count-filter p r xs same in
      rw (first, fails) (omega (arith, rest)))
]

-- those of a peer, and all others
pub peer-counted : (peer : ℕ) (xs : List Session)
    → length (filter (agrees (of_peer peer)) xs) ≡ count_of_peer peer xs
peer-counted peer xs =
    count-filter (agrees (of_peer peer)) (λ (s : Session). s.peer == peer) xs
    (λ s. peer-agrees peer s ∙ turned peer s.peer)

pub others-left : (peer : ℕ) (xs : List Session) → without_agreeing (of_peer peer) xs ≡ without_peer peer xs
others-left peer [] = refl
others-left peer (x ∷ xs) =
    let is : agrees (of_peer peer) x ≡ (x.peer == peer) = peer-agrees peer x ∙ turned peer x.peer in
    let rest = others-left peer xs in
    elim (cases_Bool (x.peer == peer)) [
      | inl passes ↦ (
          let first : agrees (of_peer peer) x ≡ true = is ∙ passes in
          rw (first, passes) rest)
      | inr fails ↦ (
          let first : agrees (of_peer peer) x ≡ false = is ∙ fails in
          rw (first, fails) (ap (λ (l : List Session). x ∷ l) rest))
    ]

-- the groups of peers
module _ (F : ℕ → Option Session) (p : PlainGroups)
    (grouped : IsGrouped (rows_under (masked false false false false) F) p) where
  abbrev pub L : List Session
  L = all_listed F

  abbrev pub rows : ℕ → Option (List ℕ)
  rows = rows_under (masked false false false false) F

  abbrev pub row : ℕ → List ℕ
  row peer = row_text (of_peer peer)

  counted : (peer : ℕ) → count_of_peer peer L ≡ length (all_listed (in_group rows (row peer)))
  counted peer =
      count-filter (λ (s : Session). s.peer == peer) (agrees (of_peer peer)) (all_listed F)
      (λ s. turned s.peer peer ∙ sym (peer-agrees peer s))
      ∙ sym (agreeing-counted (of_peer peer) F)

  -- a session is in the group of its peer
  in-its : (u : ℕ) (s : Session) → F u ≡ Some s → in_group rows (row s.peer) u ≡ Some (row s.peer)
  in-its u s at = agrees-held (of_peer s.peer) F u s at (peer-agrees s.peer s ∙ same-number s.peer s.peer refl)

  -- whose ends there are, with as many as the peer has sessions, and the oldest at most that old
  record HasEnds (u : ℕ) (s : Session) : Type 0 where
    ends : Ends
    there : p.ends (row s.peer) ≡ Some ends
    count : ends.count ≡ count_of_peer s.peer L
    before : ends.oldest ≤ u

  has-ends : (u : ℕ) (s : Session) → F u ≡ Some s → HasEnds u s
  has-ends u s at = by (p.ends (row s.peer)) refl (grouped.ends (row s.peer))
    where
      by : (o : Option Ends) → p.ends (row s.peer) ≡ o → AreEndsOf rows (row s.peer) o → HasEnds u s
      by None is none = absurd (let k = in-its u s at in let l = none u in cc (k, l))
      by (Some e) is ends = record {
        ends = e;
        there = is;
        count = sym ends.count ∙ sym (counted s.peer);
        before = elim (cases_lt u e.oldest) [
          | inl lt ↦ absurd (let k = in-its u s at in
              let l = ends.oldest.none_before u (omega arith) lt in cc (k, l))
          | inr le ↦ le
        ];
      }

  within : (u : ℕ) (s : Session) → F u ≡ Some s → u < tickets_end
  within u s at = grouped.within u (row s.peer) (from-group rows u (row s.peer)
      (held-some (in_group rows (row s.peer) u) (row s.peer) (in-its u s at)))

  module _ (t : ℕ) (most : IsOldestOfMost p t) where
    ends-are : AreEnds rows most.row most.ends
    ends-are = ends-there rows most.row (p.ends most.row) most.ends most.there (grouped.ends most.row)

    -- the session that makes way
    held : IsSome (in_group rows most.row t)
    held = subst (λ (v : ℕ). IsSome (in_group rows most.row v)) most.oldest ends-are.oldest.held

    row-there : rows t ≡ Some most.row
    row-there = from-group rows t most.row held

    pub victim : (v : Session) × (F t ≡ Some v) × (row v.peer ≡ most.row)
    victim = by (F t) refl
      where
        by : (o : Option Session) → F t ≡ o → (v : Session) × (F t ≡ Some v) × (row v.peer ≡ most.row)
        by None at = absurd (
            let k : rows t ≡ None =
            ap (λ (o : Option Session). option_and_then (row_under (masked false false false false)) o) at in
            cc (k, row-there))
        by (Some v) at = (
          v,
          at,
          (
              let both : Some (row v.peer) ≡ Some most.row = sym (from v at) ∙ row-there in cc both),
        )
          where
            from : (s : Session) → F t ≡ Some s → rows t ≡ Some (row s.peer)
            from s is = from-group rows t (row s.peer)
                (held-some (in_group rows (row s.peer) t) (row s.peer) (in-its t s is))

    count-v : most.ends.count ≡ count_of_peer victim.0.peer L
    count-v = sym ends-are.count
        ∙ ap (λ (l : List ℕ). length (all_listed (in_group rows l))) (sym victim.2)
        ∙ sym (counted victim.0.peer)

    -- nobody has more, and of those that have as many nobody is older
    no-more : (u : ℕ) (s : Session) → F u ≡ Some s → count_of_peer s.peer L ≤ count_of_peer victim.0.peer L
    no-more u s at = (
        let its = has-ends u s at in
        elim (most.most (row s.peer) its.ends its.there) [
          | inl less ↦ omega (arith, less, its.count, count-v)
          | inr same ↦ omega (arith, same.0, its.count, count-v)
        ])

    pub victim-has-most : has_most L victim.0 ≡ true
    victim-has-most = all-pass
        (λ (other : Session). nat_le (count_of_peer other.peer L) (count_of_peer victim.0.peer L)) F 0 tickets_end
        (λ u s at. (let le = no-more u s at in at-most (count_of_peer s.peer L) (count_of_peer victim.0.peer L) le))
      where
        at-most : (a b : ℕ) → a ≤ b → nat_le a b ≡ true
        at-most a b le = grind (arith, nat_tests)

    pub earlier-has-less : (u : ℕ) (s : Session) → u < t → F u ≡ Some s → has_most L s ≡ false
    earlier-has-less u s lt at = elim (cases_Bool (has_most L s)) [
      | inr fails ↦ fails
      | inl has ↦ absurd (
          let least = each-passes
          (λ (other : Session). nat_le (count_of_peer other.peer L) (count_of_peer s.peer L)) F 0 tickets_end t
          victim.0 has victim.1 (omega arith) (omega (arith, within t victim.0 victim.1)) in
          let le = at-least (count_of_peer victim.0.peer L) (count_of_peer s.peer L) least in
          let its = has-ends u s at in
          elim (most.most (row s.peer) its.ends its.there) [
            | inl less ↦ omega (arith, less, its.count, count-v, le)
            | inr same ↦ omega (arith, same.1, its.before, most.oldest, lt)
          ])
    ]
      where
        at-least : (a b : ℕ) → nat_le a b ≡ true → a ≤ b
        at-least a b h = grind (arith, nat_tests)

    pub made-way : (G : ℕ → Option Session) → PutsAt F G t None → all_listed G ≡ without_first (has_most L) L
    made-way G goes = first-gone (has_most L) F G 0 tickets_end t victim.0 victim.1 victim-has-most goes.changed
        goes.others (λ u s lt at. earlier-has-less u s lt at) (omega arith)
        (omega (arith, within t victim.0 victim.1))

    pub victim-held : IsSome (F t)
    victim-held = held-some (F t) victim.0 victim.1

  -- where there is no group there is no session
  pub nobody-there : ((l : List ℕ) → p.ends l ≡ None) → (u : ℕ) → F u ≡ None
  nobody-there none u = by (F u) refl
    where
      by : (o : Option Session) → F u ≡ o → o ≡ None
      by None at = refl
      by (Some s) at = absurd (let its = has-ends u s at in let k = none (row s.peer) in
          let l = its.there in cc (k, l))

-- where none agrees all stay
pub none-rest : (q : Asked) (F : ℕ → Option Session) → IsOneOf (agrees q) F None
    → without_agreeing q (all_listed F) ≡ all_listed F
none-rest q F none =
    all-stay (λ (s : Session). not (agrees q s)) F 0 tickets_end
    (λ u x at. not_from_false (agrees q x) (none u x at))
