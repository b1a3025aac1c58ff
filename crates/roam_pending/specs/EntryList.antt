-- A realm's entries as a list in order of ticket (ours), and what is found in it.
use Rattle.std.specs.Prelude.{◌≡◌, ◌≢◌, ℕ, ◌<◌, ◌++◌, Bool, true, not, ◌==◌, ◌&&◌, List, [], ◌∷◌, Option, Some, None, option_map, nat_lt, IsSomeAnd, if◌then◌else◌}
use Rattle.std.specs.List.{AllByRecursion, filter, filter_map, find}
use Rattle.roam_conf.specs.declared.place.Link.{Link}
use Rattle.roam_pending.specs.declared.key.Key.{Key}
use Rattle.roam_pending.specs.PlainEntry.{PlainEntry, PlainStanding, waiting, done, same_link, has_key, has_ticket, waits_at, is_done}

-- each ticket is below all later ones
abbrev pub IsInOrder : List PlainEntry → Type 0
IsInOrder [] = Unit {0}
IsInOrder (e ∷ es) = AllByRecursion (λ x. e.ticket < x.ticket) es × IsInOrder es

-- no two entries have one key
abbrev pub HasDistinctKeys : List PlainEntry → Type 0
HasDistinctKeys [] = Unit {0}
HasDistinctKeys (e ∷ es) = AllByRecursion (λ x. x.request.key ≢ e.request.key) es × HasDistinctKeys es

-- what each realm's list keeps
pub record IsEntryList (es : List PlainEntry) : Type 0 where
  pub in_order : IsInOrder es
  pub distinct_keys : HasDistinctKeys es

-- the entry of a key: the one that a retransmission belongs to
abbrev pub find_client : Key → List PlainEntry → Option PlainEntry
find_client k es = find (has_key k) es

-- the first entry that waits on a link with an Identifier: the one that a reply belongs to
abbrev pub find_link : Link → ℕ → List PlainEntry → Option PlainEntry
find_link l i es = find (waits_at l i) es

-- the entry of a ticket
abbrev pub find_ticket : ℕ → List PlainEntry → Option PlainEntry
find_ticket t es = find (has_ticket t) es

-- the ticket of the done entry of least ticket: the one that makes way where no more entries may be held
abbrev pub first_done : List PlainEntry → Option ℕ
first_done es = option_map (λ e. e.ticket) (find is_done es)

-- all entries but the one of a ticket
abbrev pub without : ℕ → List PlainEntry → List PlainEntry
without t es = filter (λ e. not (has_ticket t e)) es

-- all entries but that of a key
abbrev pub without_client : Key → List PlainEntry → List PlainEntry
without_client k es = filter (λ e. not (has_key k e)) es

-- a ticket other than the one that counts as gone, if one does
abbrev pub is_beside : Option ℕ → ℕ → Bool
is_beside None t = true
is_beside (Some gone) t = not (t == gone)

-- all entries but the one that counts as gone
abbrev pub besides : Option ℕ → List PlainEntry → List PlainEntry
besides None es = es
besides (Some t) es = without t es

-- the entries of lesser ticket
abbrev pub below : ℕ → List PlainEntry → List PlainEntry
below t es = filter (λ e. nat_lt e.ticket t) es

-- the entries of greater ticket
abbrev pub above : ℕ → List PlainEntry → List PlainEntry
above t es = filter (λ e. nat_lt t e.ticket) es

-- e stands at its ticket: a new entry in order of ticket, or in place of the one that stood there
abbrev pub put : PlainEntry → List PlainEntry → List PlainEntry
put e es = below e.ticket es ++ e ∷ above e.ticket es

-- an entry of the list has e's ticket and key
abbrev pub HasPlaceOf : PlainEntry → List PlainEntry → Type 0
HasPlaceOf e es = IsSomeAnd (find_ticket e.ticket es) (λ old. old.request.key ≡ e.request.key)

-- neither e's ticket nor its key is held
pub record IsNew (e : PlainEntry) (es : List PlainEntry) : Type 0 where
  pub ticket : find_ticket e.ticket es ≡ None
  pub key : find_client e.request.key es ≡ None

-- a done entry other than the one that counts as gone
abbrev pub is_done_beside : Option ℕ → PlainEntry → Bool
is_done_beside o e = is_beside o e.ticket && is_done e

-- the Identifier of an entry that waits on a link
abbrev pub identifier_on : Link → PlainStanding → Option ℕ
identifier_on l (waiting link id forwarded sends_left deadline signs) = if same_link link l then Some id else None
identifier_on l (done reply deadline from) = None

-- ## Used Identifiers
-- Those of the realm's waiting entries on a link.
-- Source: ours
-- Rules out: one pool for a server that realms share
-- Stands in: `roam_pending` `EntryList.antt`: `identifiers_on`; the laws of `roam_pending::laws`
--
-- the Identifiers in use toward a link: those of the entries that wait on it
abbrev pub identifiers_on : Link → List PlainEntry → List ℕ
identifiers_on l es = filter_map (λ e. identifier_on l e.standing) es

-- a realm's entries, its index, and for how many more entries there is room without memory
pub record Held : Type 0 where
  pub realm : ℕ
  pub entries : List PlainEntry
  pub spare : ℕ
