-- A pending request as a plain record: what the code's entry says, without its buffers.
use Rattle.std.specs.Prelude.{ℕ, ◌==◌, ◌&&◌, Bool, true, false, List, Option}
use Rattle.roam_conf.specs.Duplicates.{same_endpoint}
use Rattle.roam_conf.specs.declared.place.Link.{Link}
use Rattle.roam_conf.specs.declared.place.Link.TheVariants as link
use Rattle.roam_conf.specs.declared.place.Place.{Place}
use Rattle.roam_conf.specs.declared.place.Place.TheVariants as place
use Rattle.roam_pending.specs.declared.key.Key.{Key}
use Rattle.roam_pending.specs.declared.key.Requester.{Requester}

-- a request as it came in: what tells it from others, who sent it, and its octets up to Length (ours)
pub record PlainRequest : Type 0 where
  pub key : Key
  pub requester : Requester
  pub octets : List ℕ

-- how an entry stands (ours): it waits for a reply to what was forwarded, and keeps how many signs of life its link had
-- given when that was built; or it is done and its reply is held, with the link that this came from, if it came
-- from one
pub data PlainStanding : Type 0 where
  waiting : (link : Link) → (id : ℕ) → (forwarded : List ℕ) → (sends_left deadline signs : ℕ) → PlainStanding
  done : (reply : List ℕ) → (deadline : ℕ) → (from : Option Link) → PlainStanding

-- ## Entries
-- A realm's entries as a list: tickets rise, no two keys are equal. Found by key, by link and Identifier, by
-- ticket; put in place by ticket; due in order of deadline and ticket; the done one of least ticket.
-- Source: ours
-- Rules out: an entry found by Identifier alone; due ones in the order of a table
-- Stands in: `roam_pending` `PlainEntry.antt`: `PlainEntry`, `PlainRequest`, `PlainStanding`; `EntryList.antt`:
-- `IsEntryList`, `find_client`, `find_link`, `put`, `without`; `DueOrder.antt`: `due_list`; `Realms.antt`:
-- `with_standing`, `sent_again`; `Pending`, the trait `Entries`
--
-- a pending request: the request, its ticket, and how it stands (ours)
pub record PlainEntry : Type 0 where
  pub request : PlainRequest
  pub ticket : ℕ
  pub standing : PlainStanding

-- one socket of the broker
abbrev pub same_place : Place → Place → Bool
same_place (place.Auth k) (place.Auth j) = k == j
same_place (place.Acct k) (place.Acct j) = k == j
same_place (place.Out a k) (place.Out b j) = a == b && k == j
same_place (place.Reverse a k) (place.Reverse b j) = a == b && k == j
same_place _ _ = false

-- place, source and Identifier are the same (RFC 2865, section 3: what makes a request a duplicate)
abbrev pub same_key : Key → Key → Bool
same_key a b = same_place a.place b.place && same_endpoint a.from b.from && a.id == b.id

-- one remote endpoint of the realm, by one `out`
abbrev pub same_link : Link → Link → Bool
same_link (link.Auth a k) (link.Auth b j) = a == b && k == j
same_link (link.Acct a k) (link.Acct b j) = a == b && k == j
same_link (link.Coa a k) (link.Coa b j) = a == b && k == j
same_link _ _ = false

-- until when an entry stands as it does, in milliseconds
abbrev pub deadline_of : PlainStanding → ℕ
deadline_of (waiting link id forwarded sends_left deadline signs) = deadline
deadline_of (done reply deadline from) = deadline

-- an entry of this key
abbrev pub has_key : Key → PlainEntry → Bool
has_key k e = same_key e.request.key k

-- an entry of this ticket
abbrev pub has_ticket : ℕ → PlainEntry → Bool
has_ticket t e = e.ticket == t

-- it waits for a reply on this link, with this Identifier
abbrev pub stands_at : Link → ℕ → PlainStanding → Bool
stands_at l i (waiting link id forwarded sends_left deadline signs) = same_link link l && id == i
stands_at l i (done reply deadline from) = false

-- an entry that waits there
abbrev pub waits_at : Link → ℕ → PlainEntry → Bool
waits_at l i e = stands_at l i e.standing

-- it was answered
abbrev pub stands_done : PlainStanding → Bool
stands_done (waiting link id forwarded sends_left deadline signs) = false
stands_done (done reply deadline from) = true

-- an entry that was answered
abbrev pub is_done : PlainEntry → Bool
is_done e = stands_done e.standing
