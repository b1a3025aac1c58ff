-- The round of a conversation that a request is (RFC 2865, section 5.24; that it is noted is ours). No rule reads it,
-- so no packet and no answer rests on it: lines and counts tell it.
use Rattle.std.specs.Prelude.{ℕ, ◌+◌, ◌-◌, ◌^◌, ◌==◌, ◌&&◌, not, min, is_some, Bool, false, List, [], ◌∷◌, Some, None}
use Rattle.roam_wire.specs.declared.code.TheConstants.{ACCESS_CHALLENGE}
use Rattle.roam_pending.specs.PlainEntry.{PlainStanding, PlainEntry, waiting, done}
use Rattle.roam_pending.specs.Conversations.{round_of}
use Rattle.roam_pending.specs.declared.course.Course.{Course}

-- ## Course of a request
-- A request that goes on with no held round is the first of its conversation, which began when it came. One that goes
-- on with a round is one round further in the same conversation. A round knows the last request that went on from it.
-- A conversation is left where the hold of a round ends from which nobody went on: of a peer's request, whose reply
-- is a Challenge with a State that came from a link.
-- Source: RFC 2865 section 5.24; ours
-- Rules out: a login that is told as left though its next round came; a time that begins with the last round
-- Stands in: `roam_pending` `Courses.antt`: `first_course`, `next_course`, `gone_on`, `is_left`; `Course`, `is_left`
--
abbrev pub first_course : ℕ → Course
first_course now = record { began = now; round = 1; next = None }

-- one round after another one (the count ends at 2^32 - 1)
abbrev pub next_course : Course → Course
next_course before = record { began = before.began; round = min (before.round + 1) (2 ^ 32 - 1); next = None }

-- of a round from which the request of a ticket went on
abbrev pub gone_on : ℕ → Course → Course
gone_on ticket course = record { began = course.began; round = course.round; next = Some ticket }

-- a held reply begins as an Access-Challenge does
abbrev pub begins_with : ℕ → List ℕ → Bool
begins_with code [] = false
begins_with code (first ∷ rest) = first == code

abbrev pub holds_challenge : PlainStanding → Bool
holds_challenge (waiting link id forwarded sends_left deadline signs) = false
holds_challenge (done reply deadline from) = begins_with ACCESS_CHALLENGE reply

-- an entry keeps a peer's round
abbrev pub keeps_round : PlainEntry → Bool
keeps_round e = is_some (round_of e)

-- whether the conversation of an entry ends where the entry's time is over
abbrev pub is_left : Course → PlainEntry → Bool
is_left course e = not (is_some course.next) && (holds_challenge e.standing && keeps_round e)
