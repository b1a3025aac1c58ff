-- The entries of several realms: a list for each realm's index (ours).
use Rattle.std.specs.Prelude.{◌≡◌, ◌≢◌, ◌-◌, ◌==◌, ℕ, Bool, List, [], MatchOption, Option, option_and_then, unwrap_or, if◌then◌else◌}
use Rattle.roam_conf.specs.declared.place.Link.{Link}
use Rattle.roam_pending.specs.declared.key.Requester.{Requester}
use Rattle.roam_pending.specs.declared.key.Requester.TheVariants as requester
use Rattle.roam_pending.specs.PlainEntry.{PlainEntry, PlainStanding, waiting, done}
use Rattle.roam_pending.specs.EntryList.{Held, find_ticket, put}

-- the realm's entries are now these, and every other realm's are as they were
pub record RealmBecomes (realm : ℕ) (es : List PlainEntry) (old new : ℕ → List PlainEntry) : Type 0 where
  pub here : new realm ≡ es
  pub others : (r : ℕ) → r ≢ realm → new r ≡ old r

-- an entry was put among a realm's, and every other realm's are as they were
abbrev pub Puts : ℕ → PlainEntry → (ℕ → List PlainEntry) → (ℕ → List PlainEntry) → Type 0
Puts realm e old new = RealmBecomes realm (put e (old realm)) old new

-- the entry of a ticket was put changed, and where there is none all is as it was
abbrev pub IsChanged : (PlainEntry → PlainEntry) → ℕ → List PlainEntry → List PlainEntry → Type 0
IsChanged change ticket old new =
    MatchOption (find_ticket ticket old) (new ≡ old) (λ e. new ≡ put (change e) old)

-- the entry of a ticket was put changed among a realm's, and where there is none all is as it was
abbrev pub PutsChanged : (PlainEntry → PlainEntry) → ℕ → ℕ → (ℕ → List PlainEntry) → (ℕ → List PlainEntry) → Type 0
PutsChanged change realm ticket old new =
    MatchOption (find_ticket ticket (old realm)) (new ≡ old) (λ e. Puts realm (change e) old new)

-- the list of one realm as lists of all: every other realm isn't kept, and has no entries and no room
abbrev pub keeps_in : Held → ℕ → Bool
keeps_in p r = r == p.realm

abbrev pub entries_in : Held → ℕ → List PlainEntry
entries_in p r = if r == p.realm then p.entries else []

abbrev pub room_in : Held → ℕ → ℕ
room_in p r = if r == p.realm then p.spare else 0

-- a forwarded packet was sent once more: one send fewer is left, and the wait lasts until a later moment
abbrev pub waits_on : ℕ → PlainStanding → PlainStanding
waits_on deadline (waiting link id forwarded sends_left old signs) =
    waiting link id forwarded (sends_left - 1) deadline signs
waits_on deadline (done reply old from) = done reply old from

-- an entry that stands otherwise
abbrev pub with_standing : PlainStanding → PlainEntry → PlainEntry
with_standing s e = record { request = e.request; ticket = e.ticket; standing = s }

-- an entry whose forwarded packet was sent once more
abbrev pub sent_again : ℕ → PlainEntry → PlainEntry
sent_again deadline e = with_standing (waits_on deadline e.standing) e

-- ## Ends of an entry
-- Where a realm's servers stand at other places, an entry has other numbers for the home server that sent it, and for
-- the link where it waits or from which its held reply came; it may keep no link. All else of it stays, and a peer's
-- stays a peer's.
-- Source: ours
-- Rules out: an entry with another key, ticket or deadline
-- Stands in: `roam_pending` `Realms.antt`: `with_ends`; `Entries::set_ends`
--
abbrev pub with_home : Option ℕ → Requester → Requester
with_home home (requester.Peer peer) = requester.Peer peer
with_home home (requester.Home old) = requester.Home (unwrap_or home old)

abbrev pub with_link : Option Link → PlainStanding → PlainStanding
with_link link (waiting old id forwarded sends_left deadline signs) =
    waiting (unwrap_or link old) id forwarded sends_left deadline signs
with_link link (done reply deadline from) = done reply deadline (option_and_then (λ old. link) from)

abbrev pub with_ends : Option ℕ → Option Link → PlainEntry → PlainEntry
with_ends home link e = record {
  request = record { key = e.request.key; requester = with_home home e.request.requester; octets = e.request.octets };
  ticket = e.ticket;
  standing = with_link link e.standing;
}
