-- The entry at a place of the code's list stands otherwise, or has other ends.
use Rattle.std.proofs.Common.{◌≡◌, ℕ, ◌<◌, List, [], ◌∷◌, zero, suc, Option, Some, ap, sym, ◌∙◌, subst, length, get_or, arith}
use Rattle.std.specs.Prelude.{IfSome, IsSomeAnd, MatchOption}
use Rattle.std.proofs.Math.ListN.{set}
use Rattle.roam_pending.specs.declared.entry.Entry.{Entry}
use Rattle.roam_pending.specs.declared.entry.Standing.{Standing}
use Rattle.roam_pending.specs.PlainEntry.{PlainEntry, PlainStanding}
use Rattle.roam_pending.specs.EntryList.{HasPlaceOf, IsEntryList, find_ticket, put}
use Rattle.roam_pending.specs.Realms.{IsChanged, with_standing}
use Rattle.roam_pending.specs.Shown.{shown, shown_all, shown_standing}
use Rattle.roam_pending.proofs.ChangeLemmas.{found-ticket, place-of_standing}
use Rattle.roam_pending.proofs.OrderLemmas.{list-changed}
use Rattle.roam_pending.proofs.PlaceLemmas.{changed_at, found_at}

module _ {A : Type 0} (t : ℕ) (es : List (Entry A)) (i : ℕ) (old : Entry A)
    (list : IsEntryList (shown_all es)) (within : i < length es)
    (at : (get_or es i old).ticket ≡ t) (is : old ≡ get_or es i old) where
  found : find_ticket t (shown_all es) ≡ Some (shown old)
  found = found_at t es i old within at list.in_order ∙ ap (λ (e : Entry A). Some (shown e)) (sym is)

  -- how it stood
  pub stood : (standing : PlainStanding) → standing ≡ shown_standing old.standing
      → IfSome (find_ticket t (shown_all es)) (λ e. standing ≡ e.standing)
  stood standing same =
      subst (λ (o : Option PlainEntry). IfSome o (λ e. standing ≡ e.standing)) (sym found) same

  module _ (now : Standing A) where
    abbrev standing_now : Entry A
    standing_now = record { request = old.request; ticket = old.ticket; standing = now }

    puts : shown_all (set es i standing_now) ≡ put (with_standing (shown_standing now) (shown old)) (shown_all es)
    puts = changed_at standing_now es i old within (ap (λ (e : Entry A). e.ticket) (sym is)) list.in_order

    -- the list is one still
    pub stands-list : IsEntryList (shown_all (set es i standing_now))
    stands-list =
        let e = with_standing (shown_standing now) (shown old) in
        let place = place-of_standing t (shown_standing now) (shown old) (shown_all es) found in
        subst IsEntryList (sym puts) (list-changed e (shown_all es) list place)

    -- the entry of the ticket is changed in it
    pub stands-changed : (change : PlainEntry → PlainEntry)
        → with_standing (shown_standing now) (shown old) ≡ change (shown old)
        → IsChanged change t (shown_all es) (shown_all (set es i standing_now))
    stands-changed change same =
        let new = shown_all (set es i standing_now) in
        subst (λ (o : Option PlainEntry).
        MatchOption o (new ≡ shown_all es) (λ e. new ≡ put (change e) (shown_all es))) (sym found)
        (puts ∙ ap (λ (e : PlainEntry). put e (shown_all es)) same)

  -- another entry of its ticket and key stands there
  module _ (now : Entry A) (ticket : (shown now).ticket ≡ (shown old).ticket)
      (key : (shown now).request.key ≡ (shown old).request.key) where
    puts-entry : shown_all (set es i now) ≡ put (shown now) (shown_all es)
    puts-entry = changed_at now es i old within (ap (λ (e : Entry A). e.ticket) (sym is) ∙ sym ticket) list.in_order

    found-now : find_ticket (shown now).ticket (shown_all es) ≡ Some (shown old)
    found-now =
        ap (λ (n : ℕ). find_ticket n (shown_all es)) (ticket ∙ found-ticket t (shown_all es) (shown old) found) ∙ found

    place-now : HasPlaceOf (shown now) (shown_all es)
    place-now =
        subst (λ (o : Option PlainEntry). IsSomeAnd o (λ e. e.request.key ≡ (shown now).request.key)) (sym found-now)
        (sym key)

    -- the list is one still
    pub entry-list : IsEntryList (shown_all (set es i now))
    entry-list = subst IsEntryList (sym puts-entry) (list-changed (shown now) (shown_all es) list place-now)

    -- the entry of the ticket is changed in it
    pub entry-changed : (change : PlainEntry → PlainEntry) → shown now ≡ change (shown old)
        → IsChanged change t (shown_all es) (shown_all (set es i now))
    entry-changed change same =
        let new = shown_all (set es i now) in
        subst (λ (o : Option PlainEntry).
        MatchOption o (new ≡ shown_all es) (λ e. new ≡ put (change e) (shown_all es))) (sym found)
        (puts-entry ∙ ap (λ (e : PlainEntry). put e (shown_all es)) same)

-- an entry that shows the same stands there
pub shown-stays : {A : Type 0} (es : List (Entry A)) (i : ℕ) (old now : Entry A) → i < length es
    → old ≡ get_or es i old → shown now ≡ shown old → shown_all (set es i now) ≡ shown_all es
shown-stays [] i old now within is same = absurd (omega (arith, within))
shown-stays {A} (e ∷ es) zero old now within is same =
    ap (λ (x : PlainEntry). x ∷ shown_all es) (same ∙ ap (λ (x : Entry A). shown x) is)
shown-stays (e ∷ es) (suc i) old now within is same =
    ap (λ (l : List PlainEntry). shown e ∷ l) (shown-stays es i old now (omega (arith, within)) is same)
