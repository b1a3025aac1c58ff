-- The conversations of which a Challenge is held: its State comes back in the next request of the conversation (RFC
-- 2865, section 5.24), and the server that sent it goes on with it (ours).
use Rattle.std.specs.Prelude.{ℕ, ◌==◌, ◌&&◌, nat_eq, Bool, false, List, [], ◌∷◌, Option, Some, None, Result, Ok, Err, option_map, if◌then◌else◌}
use Rattle.std.specs.Cmp.Lexicographic.{pointwise}
use Rattle.std.specs.Option.{option_map_or, option_or}
use Rattle.roam_wire.specs.Attributes.{first_value}
use Rattle.roam_wire.specs.Packet.{Packet}
use Rattle.roam_wire.specs.Reading.{reading}
use Rattle.roam_wire.specs.declared.attribute_type.TheConstants.{STATE}
use Rattle.roam_wire.specs.declared.code.TheConstants.{ACCESS_CHALLENGE}
use Rattle.roam_wire.specs.declared.refusal.Refusal.{Refusal}
use Rattle.roam_conf.specs.declared.place.Link.{Link}
use Rattle.roam_pending.specs.declared.key.Requester.{Requester}
use Rattle.roam_pending.specs.declared.key.Requester.TheVariants as requester
use Rattle.roam_pending.specs.PlainEntry.{PlainStanding, PlainEntry, waiting, done}

-- the first State of what was read, where that is an Access-Challenge
abbrev pub state_read : Result Packet Refusal → Option (List ℕ)
state_read (Ok p) = if p.code == ACCESS_CHALLENGE then first_value STATE p.attributes else None
state_read (Err why) = None

-- the State of a held reply: the first one of an Access-Challenge
unfoldable pub challenge_state : List ℕ → Option (List ℕ)
challenge_state reply = state_read (reading reply)

-- the State that an entry keeps which stands so: that of the Challenge that came from a link
abbrev pub state_from : Option Link → List ℕ → Option (List ℕ)
state_from None reply = None
state_from (Some l) reply = challenge_state reply

abbrev pub kept_state : PlainStanding → Option (List ℕ)
kept_state (waiting link id forwarded sends_left deadline signs) = None
kept_state (done reply deadline from) = state_from from reply

-- the link from which its reply came, if it came from one
abbrev pub kept_link : PlainStanding → Option Link
kept_link (waiting link id forwarded sends_left deadline signs) = None
kept_link (done reply deadline from) = from

-- the round of a conversation that is held: whose it is, and its State
pub record Round : Type 0 where
  pub peer : ℕ
  pub state : List ℕ

-- of a peer's request, where a State is kept
abbrev pub round_with : Requester → Option (List ℕ) → Option Round
round_with (requester.Peer peer) kept = option_map (λ state. record { peer = peer; state = state }) kept
round_with (requester.Home server) kept = None

abbrev pub round_of : PlainEntry → Option Round
round_of e = round_with e.request.requester (kept_state e.standing)

-- it is a peer's round of this State
abbrev pub is_round_of : ℕ → List ℕ → Round → Bool
is_round_of peer state r = r.peer == peer && pointwise nat_eq r.state state

abbrev pub is_round : ℕ → List ℕ → PlainEntry → Bool
is_round peer state e = option_map_or (is_round_of peer state) (round_of e) false

abbrev pub if_round : ℕ → List ℕ → PlainEntry → Option PlainEntry
if_round peer state e = if is_round peer state e then Some e else None

-- ## Conversation
-- A done entry of a peer whose reply is a Challenge that came from a link keeps the State of this Challenge, its first.
-- Of several of one peer that keep one State the last counts, by ticket. An entry that went keeps nothing; one past
-- its deadline does until it goes.
-- Source: RFC 2865 section 5.24; ours
-- Rules out: the State of another peer; a conversation that ended and binds still
-- Stands in: `roam_pending` `Conversations.antt`: `last_round`, `round_of`; `Entries::find_round`
--
-- the last entry that keeps a peer's round of this State
abbrev pub last_round : ℕ → List ℕ → List PlainEntry → Option PlainEntry
last_round peer state [] = None
last_round peer state (e ∷ es) = option_or (last_round peer state es) (if_round peer state e)
