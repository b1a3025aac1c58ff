-- The code's entries, as they are seen.
use Rattle.std.specs.Prelude.{List, map, Option, option_map}
use Rattle.std.specs.Borrow.{Bor}
use Rattle.roam_pending.specs.declared.entry.Entry.{Entry}
use Rattle.roam_pending.specs.declared.entry.Request.{Request}
use Rattle.roam_pending.specs.declared.entry.Standing.{Standing}
use Rattle.roam_pending.specs.declared.entry.Standing.TheVariants as standing
use Rattle.roam_pending.specs.PlainEntry.{PlainEntry, PlainRequest, PlainStanding, waiting, done}

-- a request
abbrev pub shown_request : {A : Type 0} → Request A → PlainRequest
shown_request q = record { key = q.key; requester = q.requester; octets = q.octets }

-- how an entry stands
abbrev pub shown_standing : {A : Type 0} → Standing A → PlainStanding
shown_standing (standing.Waiting w) = waiting w.link w.id w.forwarded w.sends_left w.deadline w.signs
shown_standing (standing.Done d) = done d.reply d.deadline d.from

-- an entry
abbrev pub shown : {A : Type 0} → Entry A → PlainEntry
shown e = record { request = shown_request e.request; ticket = e.ticket; standing = shown_standing e.standing }

-- entries in a row
abbrev pub shown_all : {A : Type 0} → List (Entry A) → List PlainEntry
shown_all es = map shown es

-- an entry that is looked at
abbrev pub shown_now : {A : Type 0} → Bor (Entry A) → PlainEntry
shown_now b = shown b.now

-- what a look-up answers
abbrev pub seen : {A : Type 0} → Option (Bor (Entry A)) → Option PlainEntry
seen o = option_map shown_now o

-- what is handed out
abbrev pub taken : {A : Type 0} → Option (Entry A) → Option PlainEntry
taken o = option_map shown o
