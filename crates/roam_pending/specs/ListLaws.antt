-- Laws of a realm's list of entries: what `src/laws.rt` proves.
use Rattle.std.specs.Prelude.{◌≡◌, ◌≢◌, ◌⊎◌, ◌↔◌, ◌+◌, ◌<◌, ◌≤◌, ◌==◌, ℕ, true, false, List, [], ◌∷◌, ◌++◌, MatchOption, Option, Some, None, is_some, length, slice_get}
use Rattle.std.specs.List.{AllByRecursion, last_or, list_any}
use Rattle.roam_conf.specs.declared.place.Link.{Link}
use Rattle.roam_pending.specs.declared.due.Due.{Due}
use Rattle.roam_pending.specs.declared.key.Key.{Key}
use Rattle.roam_pending.specs.PlainEntry.{PlainEntry, deadline_of, same_key, waits_at, is_done}
use Rattle.roam_pending.specs.EntryList.{IsInOrder, IsEntryList, IsNew, HasPlaceOf, find_client, find_link, find_ticket, first_done, without, without_client, put, identifiers_on}
use Rattle.roam_pending.specs.Realms.{RealmBecomes}
use Rattle.roam_pending.specs.DueOrder.{is_after, is_before, due_at, due_list, due_after}

-- x is one of these
abbrev pub IsIn : {X : Type 0} → X → List X → Type 0
IsIn x [] = ⊥
IsIn x (y ∷ ys) = (y ≡ x) ⊎ IsIn x ys

-- an entry of the list is due as d says, after the last one, and of those after the last one none comes before it
pub record IsNextEntry (last : Option Due) (es : List PlainEntry) (d : Due) : Type 0 where
  pub entry : PlainEntry
  pub held : IsIn entry es
  pub at : due_at entry ≡ d
  pub after : is_after last d ≡ true
  pub first : (x : PlainEntry) → IsIn x es → is_after last (due_at x) ≡ true
      → (d ≡ due_at x) ⊎ (is_before d (due_at x) ≡ true)

-- the first of all entries after the last one in order of deadline and ticket, whatever the moment, if there is one
abbrev pub IsNextAfter : Option Due → List PlainEntry → Option Due → Type 0
IsNextAfter last es o =
    MatchOption o ((x : PlainEntry) → IsIn x es → is_after last (due_at x) ≡ false) (IsNextEntry last es)

-- each comes before all later ones
abbrev pub AreInDueOrder : List Due → Type 0
AreInDueOrder [] = Unit {0}
AreInDueOrder (d ∷ ds) = AllByRecursion (λ x. is_before d x ≡ true) ds × AreInDueOrder ds

-- an entry of the list whose deadline is reached is due as d says
pub record IsDueEntry (now : ℕ) (d : Due) (e : PlainEntry) (es : List PlainEntry) : Type 0 where
  pub held : IsIn e es
  pub at : due_at e ≡ d
  pub reached : deadline_of e.standing ≤ now

-- keys are the same just where they are equal
abbrev pub SameKeyIsEqual : Type 0
SameKeyIsEqual = (a b : Key) → (same_key a b ≡ true) ↔ (a ≡ b)

-- each change leaves a realm's list: tickets in order, keys distinct
abbrev pub NewKeepsList : Type 0
NewKeepsList =
    (e : PlainEntry) (es : List PlainEntry) → IsEntryList es → IsNew e es → IsEntryList (put e es)

abbrev pub ChangeKeepsList : Type 0
ChangeKeepsList =
    (e : PlainEntry) (es : List PlainEntry) → IsEntryList es → HasPlaceOf e es
    → IsEntryList (put e es)

abbrev pub RemovalKeepsList : Type 0
RemovalKeepsList = (t : ℕ) (es : List PlainEntry) → IsEntryList es → IsEntryList (without t es)

-- an entry that is put is found by its ticket, and each other one as before
abbrev pub PutIsFound : Type 0
PutIsFound = (e : PlainEntry) (es : List PlainEntry) → find_ticket e.ticket (put e es) ≡ Some e

abbrev pub PutKeepsOthers : Type 0
PutKeepsOthers =
    (t : ℕ) (e : PlainEntry) (es : List PlainEntry) → IsInOrder es → t ≢ e.ticket
    → find_ticket t (put e es) ≡ find_ticket t es

-- an entry that is taken out isn't found, and each other one as before
abbrev pub RemovedIsGone : Type 0
RemovedIsGone = (t : ℕ) (es : List PlainEntry) → find_ticket t (without t es) ≡ None

abbrev pub RemovalKeepsOthers : Type 0
RemovalKeepsOthers =
    (t s : ℕ) (es : List PlainEntry) → t ≢ s → find_ticket t (without s es) ≡ find_ticket t es

abbrev pub NothingIsRemoved : Type 0
NothingIsRemoved = (t : ℕ) (es : List PlainEntry) → find_ticket t es ≡ None → without t es ≡ es

-- to take an entry out and put one of its ticket back is to put that one in its place
abbrev pub PutBack : Type 0
PutBack = (e : PlainEntry) (es : List PlainEntry) → put e (without e.ticket es) ≡ put e es

-- of two entries of one ticket the later stands there
abbrev pub PutTwice : Type 0
PutTwice =
    (e x : PlainEntry) (es : List PlainEntry) → x.ticket ≡ e.ticket → put e (put x es) ≡ put e es

-- to take out what was put leaves the others
abbrev pub TakenOut : Type 0
TakenOut =
    (e : PlainEntry) (es : List PlainEntry) → IsInOrder es
    → without e.ticket (put e es) ≡ without e.ticket es

-- how many there are then
abbrev pub OneFewer : Type 0
OneFewer =
    (t : ℕ) (e : PlainEntry) (es : List PlainEntry) → IsInOrder es → find_ticket t es ≡ Some e
    → length (without t es) + 1 ≡ length es

abbrev pub OneMore : Type 0
OneMore =
    (e : PlainEntry) (es : List PlainEntry) → IsInOrder es
    → length (put e es) ≡ length (without e.ticket es) + 1

-- what is found by a ticket, by a key or on a link has it, and is the entry of its ticket
abbrev pub FoundByTicket : Type 0
FoundByTicket =
    (t : ℕ) (e : PlainEntry) (es : List PlainEntry) → find_ticket t es ≡ Some e → e.ticket ≡ t

abbrev pub FoundByKey : Type 0
FoundByKey =
    (k : Key) (e : PlainEntry) (es : List PlainEntry) → IsInOrder es → find_client k es ≡ Some e
    → (e.request.key ≡ k) × (find_ticket e.ticket es ≡ Some e)

abbrev pub FoundOnLink : Type 0
FoundOnLink =
    (l : Link) (i : ℕ) (e : PlainEntry) (es : List PlainEntry) → IsInOrder es
    → find_link l i es ≡ Some e → (waits_at l i e ≡ true) × (find_ticket e.ticket es ≡ Some e)

abbrev pub FoundDone : Type 0
FoundDone =
    (t : ℕ) (es : List PlainEntry) → IsInOrder es → first_done es ≡ Some t
    → (e : PlainEntry) × (find_ticket t es ≡ Some e) × (is_done e ≡ true)

-- the entries without a key are all but the one that is found by it
abbrev pub OneOfAKey : Type 0
OneOfAKey =
    (k : Key) (e : PlainEntry) (es : List PlainEntry) → IsEntryList es → find_client k es ≡ Some e
    → without_client k es ≡ without e.ticket es

abbrev pub NoneOfAKey : Type 0
NoneOfAKey = (k : Key) (es : List PlainEntry) → find_client k es ≡ None → without_client k es ≡ es

abbrev pub KeyIsGone : Type 0
KeyIsGone = (k : Key) (es : List PlainEntry) → find_client k (without_client k es) ≡ None

-- an Identifier is in use toward a link just where an entry is found there by it
abbrev pub UsedIsFound : Type 0
UsedIsFound =
    (l : Link) (i : ℕ) (es : List PlainEntry)
    → list_any (λ j. j == i) (identifiers_on l es) ≡ is_some (find_link l i es)

-- what is due rises by deadline and ticket, and is just the entries whose deadline is reached
abbrev pub DueRises : Type 0
DueRises = (now : ℕ) (es : List PlainEntry) → IsInOrder es → AreInDueOrder (due_list now es)

abbrev pub DueIsReached : Type 0
DueIsReached =
    (now : ℕ) (d : Due) (es : List PlainEntry)
    → IsIn d (due_list now es) ↔ ((e : PlainEntry) × IsDueEntry now d e es)

-- once the least due entry is taken out, the rest of the list is due
abbrev pub RestIsDue : Type 0
RestIsDue =
    (now : ℕ) (es : List PlainEntry) (d : Due) (ds : List Due) → IsInOrder es
    → due_list now es ≡ d ∷ ds → due_list now (without d.ticket es) ≡ ds

-- what is put with a later deadline isn't due
abbrev pub PutLater : Type 0
PutLater =
    (now : ℕ) (e : PlainEntry) (es : List PlainEntry) → IsInOrder es → now < deadline_of e.standing
    → due_list now (put e es) ≡ due_list now (without e.ticket es)

-- the one after those that were read is the first of the rest
abbrev pub NextDue : Type 0
NextDue =
    (now : ℕ) (es : List PlainEntry) (ds rest : List Due) → IsInOrder es
    → due_list now es ≡ ds ++ rest → due_after now (last_or None ds) es ≡ slice_get rest 0

-- two changes of one realm are one
abbrev pub OneChangeOfTwo : Type 0
OneChangeOfTwo =
    (realm : ℕ) (es fs : List PlainEntry) (old mid new : ℕ → List PlainEntry)
    → RealmBecomes realm es old mid → RealmBecomes realm fs mid new → RealmBecomes realm fs old new
