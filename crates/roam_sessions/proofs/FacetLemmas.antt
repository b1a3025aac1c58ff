-- Sessions are in the groups of their rows, and what agrees is counted and found there.
use Rattle.std.proofs.Common.{◌≡◌, ℕ, zero, suc, ◌+◌, Bool, true, false, List, [], length, Option, Some, None, refl, sym, ap, ◌∙◌, subst, inl, inr, arith}
use Rattle.std.specs.Prelude.{IsSome, filter, is_some, option_and_then, if◌then◌else◌}
use Rattle.std.specs.List.{cons_option}
use Rattle.std.proofs.lemmas.Bool.{cases_Bool}
use Rattle.roam_wire.specs.Numbered.{PutsAt, listed, tickets_end}
use Rattle.roam_sessions.specs.Facets.{AreFaceted, ComesIn, facet_by, facet_of, grouped, masked, rows_under}
use Rattle.roam_sessions.specs.Maps.{beside_at, ends_at, groups_of}
use Rattle.roam_sessions.specs.Private.Groups.{AreEndsOf, Comes, Goes, IsGrouped, PlainGroups, count_of, if_row, in_group, oldest_of}
use Rattle.roam_sessions.specs.Private.Masks.{mask_of}
use Rattle.roam_sessions.specs.Private.Row.{row_text, row_under}
use Rattle.roam_sessions.specs.Private.Tickets.{IsOneOf, NoneBefore, all_listed}
use Rattle.roam_sessions.specs.Sessions.{Asked, Session, agrees}
use Rattle.roam_sessions.specs.declared.ends.Ends.{Ends}
use Rattle.roam_sessions.specs.declared.facets.Facets.{Facets}
use Rattle.roam_sessions.specs.declared.links.Facet.{Facet}
use Rattle.roam_sessions.specs.declared.links.Facet.TheVariants as facet
use Rattle.roam_sessions.specs.declared.neighbours.Beside.{Beside}
use Rattle.roam_sessions.proofs.ListedLemmas.{listed-none}
use Rattle.roam_sessions.proofs.NeighbourLemmas.{held-none}
use Rattle.roam_sessions.proofs.RowLemmas.{in-narrow}

-- a session comes into the group of its row, and goes out of it
module _ (r : Session → Option (List ℕ)) (F G : ℕ → Option Session) (t : ℕ) where
  pub comes-by : (s : Session) (w : Option (List ℕ)) → w ≡ r s → ComesIn F G t s
      → Comes (λ u. option_and_then r (F u)) (λ u. option_and_then r (G u)) t w
  comes-by s w is comes = record {
    puts = record {
      changed = ap (option_and_then r) comes.puts.changed ∙ sym is;
      others = λ u ne. ap (option_and_then r) (comes.puts.others u ne);
    };
    free = λ u le. ap (option_and_then r) (comes.free u le);
    within = comes.within;
  }

  pub goes-by : (s : Session) (w : Option (List ℕ)) → w ≡ r s → F t ≡ Some s → PutsAt F G t None
      → Goes (λ u. option_and_then r (F u)) (λ u. option_and_then r (G u)) t w
  goes-by s w is at goes = record {
    was = ap (option_and_then r) at ∙ sym is;
    puts = record {
      changed = ap (option_and_then r) goes.changed;
      others = λ u ne. ap (option_and_then r) (goes.others u ne);
    };
  }

-- the groups of what is asked are those of its parts
pub facet-grouped : {A : Type 0} (q : Asked) (f : Facets A) (F : ℕ → Option Session)
    (b : Facet → ℕ → Option Beside) → AreFaceted F f b
    → is_some q.id ≡ false → (beside : ℕ → Option Beside)
    × IsGrouped (rows_under (mask_of q) F) (record { ends = facet_of q f; beside = beside })
facet-grouped {A} q f F b are none = by q.nas.address q.nas.identifier q.nas.ipv6
  where
    by : (a i v : Option (List ℕ)) → (beside : ℕ → Option Beside)
        × IsGrouped (rows_under (masked (is_some a) (is_some i) (is_some v) (is_some q.id)) F)
        (record { ends = facet_by a i v f; beside = beside })
    by None None None = (
      b facet.Peer,
      subst (λ (k : Bool). IsGrouped (rows_under (masked false false false k) F) (grouped (ends_at f.by_peer) (b facet.Peer))) (sym none) are.by_peer,
    )
    by (Some a) None None = (
      b facet.Address,
      subst (λ (k : Bool). IsGrouped (rows_under (masked true false false k) F) (grouped (ends_at f.by_address) (b facet.Address))) (sym none) are.by_address,
    )
    by None (Some i) None = (
      b facet.Identifier,
      subst (λ (k : Bool). IsGrouped (rows_under (masked false true false k) F) (grouped (ends_at f.by_identifier) (b facet.Identifier))) (sym none) are.by_identifier,
    )
    by (Some a) (Some i) None = (
      b facet.Both,
      subst (λ (k : Bool). IsGrouped (rows_under (masked true true false k) F) (grouped (ends_at f.by_both) (b facet.Both))) (sym none) are.by_both,
    )
    by None None (Some v) = (
      beside_at f.by_ipv6.beside,
      subst (λ (k : Bool). IsGrouped (rows_under (masked false false true k) F) (groups_of f.by_ipv6)) (sym none) are.by_ipv6,
    )
    by (Some a) None (Some v) = (
      beside_at f.by_address_ipv6.beside,
      subst (λ (k : Bool). IsGrouped (rows_under (masked true false true k) F) (groups_of f.by_address_ipv6)) (sym none) are.by_address_ipv6,
    )
    by None (Some i) (Some v) = (
      beside_at f.by_identifier_ipv6.beside,
      subst (λ (k : Bool). IsGrouped (rows_under (masked false true true k) F) (groups_of f.by_identifier_ipv6)) (sym none) are.by_identifier_ipv6,
    )
    by (Some a) (Some i) (Some v) = (
      beside_at f.by_all.beside,
      subst (λ (k : Bool). IsGrouped (rows_under (masked true true true k) F) (groups_of f.by_all)) (sym none) are.by_all,
    )

-- as many have a row as pass a test
unfoldable pub passing : {X : Type 0} → (X → Bool) → Option X → Bool
passing test None = false
passing test (Some x) = test x

pub listed-count : {X Y : Type 0} (test : X → Bool) (f : ℕ → Option X) (h : ℕ → Option Y) (t n : ℕ)
    → ((u : ℕ) → is_some (h u) ≡ passing test (f u)) → length (listed h t n) ≡ length (filter test (listed f t n))
unfolding listed passing
listed-count test f h t zero same = refl
listed-count {X} {Y} test f h t (suc n) same =
    one (h t) (f t) (listed h (t + 1) n) (listed f (t + 1) n) (same t) (listed-count test f h (t + 1) n same)
  where
    one : (p : Option Y) (o : Option X) (ys : List Y) (xs : List X) → is_some p ≡ passing test o
        → length ys ≡ length (filter test xs) → length (cons_option p ys) ≡ length (filter test (cons_option o xs))
    one None None ys xs is rest = rest
    one (Some y) None ys xs is rest = absurd (cc is)
    one None (Some x) ys xs is rest = (let fails : test x ≡ false = sym is in rw fails rest)
    one (Some y) (Some x) ys xs is rest = (let passes : test x ≡ true = sym is in
        rw passes (omega (arith, rest)))

-- how many a group has
pub count-is : (f : ℕ → Option (List ℕ)) (p : PlainGroups) (row : List ℕ) → IsGrouped f p
    → count_of p row ≡ length (all_listed (in_group f row))
count-is f p row grouped = by (p.ends row) refl (grouped.ends row)
  where
    by : (o : Option Ends) → p.ends row ≡ o → AreEndsOf f row o → count_of p row ≡ length (all_listed (in_group f row))
    by None is none =
        rw is (sym (ap (λ (l : List (List ℕ)). length l) (listed-none (in_group f row) 0 tickets_end (λ u le. none u))))
    by (Some e) is ends = rw is (sym ends.count)

module _ (q : Asked) (F : ℕ → Option Session) where
  -- a session's ticket is in the group just where it agrees
  pub in-facet : (u : ℕ) (s : Session) → F u ≡ Some s
      → in_group (rows_under (mask_of q) F) (row_text q) u ≡ (if agrees q s then Some (row_text q) else None)
  in-facet u s at =
      ap (λ (o : Option Session). if_row (row_text q) (option_and_then (row_under (mask_of q)) o)) at ∙ in-narrow q s

  pub none-facet : (u : ℕ) → F u ≡ None → in_group (rows_under (mask_of q) F) (row_text q) u ≡ None
  none-facet u at =
      ap (λ (o : Option Session). if_row (row_text q) (option_and_then (row_under (mask_of q)) o)) at

  pub agrees-held : (u : ℕ) (s : Session) → F u ≡ Some s → agrees q s ≡ true
      → in_group (rows_under (mask_of q) F) (row_text q) u ≡ Some (row_text q)
  agrees-held u s at agree = in-facet u s at ∙ rw agree refl

  pub held-agrees : (u : ℕ) → IsSome (in_group (rows_under (mask_of q) F) (row_text q) u)
      → (s : Session) × (F u ≡ Some s) × (agrees q s ≡ true)
  held-agrees u held = by (F u) refl
    where
      by : (o : Option Session) → F u ≡ o → (s : Session) × (F u ≡ Some s) × (agrees q s ≡ true)
      by None at = absurd (held-none (in_group (rows_under (mask_of q) F) (row_text q) u) held (none-facet u at))
      by (Some s) at = elim (cases_Bool (agrees q s)) [
        | inl agree ↦ (s, at, agree)
        | inr disagree ↦ absurd (held-none (in_group (rows_under (mask_of q) F) (row_text q) u) held
            (in-facet u s at ∙ rw disagree refl))
      ]

  pub agreeing-counted : length (all_listed (in_group (rows_under (mask_of q) F) (row_text q)))
      ≡ length (filter (agrees q) (all_listed F))
  unfolding passing
  agreeing-counted =
      listed-count (agrees q) F (in_group (rows_under (mask_of q) F) (row_text q)) 0 tickets_end same
    where
      same : (u : ℕ) → is_some (in_group (rows_under (mask_of q) F) (row_text q) u) ≡ passing (agrees q) (F u)
      same u = by (F u) refl
        where
          by : (o : Option Session) → F u ≡ o
              → is_some (in_group (rows_under (mask_of q) F) (row_text q) u) ≡ passing (agrees q) o
          by None at = ap (λ (o : Option (List ℕ)). is_some o) (none-facet u at)
          by (Some s) at = ap (λ (o : Option (List ℕ)). is_some o) (in-facet u s at)
              ∙ elim (cases_Bool (agrees q s)) [
                | inl agree ↦ rw agree refl
                | inr disagree ↦ rw disagree refl
              ]

  module _ (p : PlainGroups) (grouped : IsGrouped (rows_under (mask_of q) F) p) where
    pub count-agreeing : count_of p (row_text q) ≡ length (filter (agrees q) (all_listed F))
    count-agreeing = count-is (rows_under (mask_of q) F) p (row_text q) grouped ∙ agreeing-counted

    pub oldest-agreeing : IsOneOf (agrees q) F (oldest_of p (row_text q))
    oldest-agreeing = by (p.ends (row_text q)) refl (grouped.ends (row_text q))
      where
        by : (o : Option Ends) → p.ends (row_text q) ≡ o → AreEndsOf (rows_under (mask_of q) F) (row_text q) o
            → IsOneOf (agrees q) F (oldest_of p (row_text q))
        by None is none = rw is (λ t x at. elim (cases_Bool (agrees q x)) [
          | inl agree ↦ absurd (let k = agrees-held t x at agree in let l = none t in cc (k, l))
          | inr disagree ↦ disagree
        ])
        by (Some e) is ends = rw is (held-agrees e.oldest ends.oldest.held)

    pub none-before : NoneBefore (agrees q) F (oldest_of p (row_text q))
    none-before = by (p.ends (row_text q)) refl (grouped.ends (row_text q))
      where
        by : (o : Option Ends) → p.ends (row_text q) ≡ o → AreEndsOf (rows_under (mask_of q) F) (row_text q) o
            → NoneBefore (agrees q) F (oldest_of p (row_text q))
        by None is none = rw is tt
        by (Some e) is ends = rw is (λ u x lt at. elim (cases_Bool (agrees q x)) [
          | inl agree ↦ absurd (
              let k = agrees-held u x at agree in
              let l = ends.oldest.none_before u (omega arith) lt in
              cc (k, l))
          | inr disagree ↦ disagree
        ])
