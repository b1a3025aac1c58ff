-- The meaning of a script: its events in order, or the number of its first faulty line. Ours.
use Rattle.std.specs.Prelude.{ℕ, ◌+◌, ◌-◌, ◌^◌, ◌==◌, ◌&&◌, ◌||◌, nat_lt, nat_le, if◌then◌else◌, Bool, true, false, List, [], ◌∷◌, length, slice_index, codes, Option, Some, None, option_map, Result, Ok, Err}
use Rattle.std.specs.Option.{option_or}
use Rattle.std.specs.Result.{result_ok}
use Rattle.std.specs.Str.{bytes_eq}
use Rattle.hex.specs.Hex.{decode_of}
use Rattle.roam_address.specs.Decimals.{decimal_in}
use Rattle.roam_address.specs.Texts.{endpoint_in}
use Rattle.roam_conf.specs.Texts.{parts}
use Rattle.roam_address.specs.declared.endpoint.Endpoint.{Endpoint}
use Rattle.roam_conf.specs.declared.place.Place.{Place}
use Rattle.roam_conf.specs.declared.place.Place.TheVariants as place
use Rattle.roam_core.specs.Events.{PlainEvent, arrives, ticks}

-- what a line is: without meaning, an event, or faulty
pub data LineMeaning : Type 0 where
  skipped : LineMeaning
  states : PlainEvent → LineMeaning
  faulty : LineMeaning

-- it is an event
abbrev pub StatesEvent : LineMeaning → Type 0
StatesEvent (states event) = Unit {0}
StatesEvent _ = ⊥

-- a moment in milliseconds, below 2 ^ 64; the index of a shard or of a realm, below 2 ^ 16
abbrev pub moment_in : List ℕ → Option ℕ
moment_in text = decimal_in 0 (2 ^ 64 - 1) text

abbrev pub index_in : List ℕ → Option ℕ
index_in text = decimal_in 0 (2 ^ 16 - 1) text

-- when a datagram arrives: its moment and, where the wall clock's seconds are known, these, below 2 ^ 64
abbrev pub without_seconds : Option ℕ → Option (ℕ × Option ℕ)
without_seconds None = None
without_seconds (Some now) = Some (now, None)

abbrev pub with_seconds : Option ℕ → Option ℕ → Option (ℕ × Option ℕ)
with_seconds (Some now) (Some seconds) = Some (now, Some seconds)
with_seconds _ _ = None

abbrev pub times_of : List (List ℕ) → Option (ℕ × Option ℕ)
times_of (now ∷ []) = without_seconds (moment_in now)
times_of (now ∷ seconds ∷ []) = with_seconds (moment_in now) (moment_in seconds)
times_of _ = None

-- a slash (47) stands before the seconds
unfoldable pub times_in : List ℕ → Option (ℕ × Option ℕ)
times_in text = times_of (parts 47 text)

-- which of several sockets of a kind it is, where it isn't the first
abbrev pub nth_in : List ℕ → Option ℕ
nth_in text = decimal_in 1 (2 ^ 16 - 1) text

-- a socket for requests of peers: which of the two kinds, and which of these
abbrev pub peer_place : List ℕ → Option ℕ → Option Place
peer_place socket nth =
    if bytes_eq socket (codes "auth") then option_map (λ k. place.Auth k) nth
    else if bytes_eq socket (codes "acct") then option_map (λ k. place.Acct k) nth
    else None

-- a socket of a realm: which of the two kinds, the realm's index, and which of these
abbrev pub realm_place : List ℕ → Option ℕ → Option ℕ → Option Place
realm_place socket (Some realm) (Some nth) =
    if bytes_eq socket (codes "out") then Some (place.Out realm nth)
    else if bytes_eq socket (codes "reverse") then Some (place.Reverse realm nth)
    else None
realm_place socket _ _ = None

-- a place by its parts: a kind alone, or with which of these; of a realm's the realm's index stands between
abbrev pub place_of : List (List ℕ) → Option Place
place_of (socket ∷ []) = peer_place socket (Some 0)
place_of (socket ∷ number ∷ []) =
    option_or (peer_place socket (nth_in number)) (realm_place socket (index_in number) (Some 0))
place_of (socket ∷ realm ∷ number ∷ []) = realm_place socket (index_in realm) (nth_in number)
place_of _ = None

-- one of the broker's sockets; a colon (58) stands before a realm's index, and before which of several it is
unfoldable pub place_in : List ℕ → Option Place
place_in text = place_of (parts 58 text)

-- the octets of a datagram: a hyphen for none, or else the hexadecimal digits of 1 to 65535 of them
unfoldable pub datagram_in : List ℕ → Option (List ℕ)
datagram_in text =
    if bytes_eq text (codes "-") then Some []
    else if nat_lt 0 (length text) && nat_le (length text) 131070 then result_ok (decode_of text)
    else None

-- an arrival, if all that it consists of is there, whose session is kept or not
abbrev pub arrival :
    Bool → Option (ℕ × Option ℕ) → Option Place → Option Endpoint → Option (List ℕ) → Option PlainEvent
arrival keeps_session (Some times) (Some at) (Some from) (Some octets) =
    Some (arrives times.0 (record {
      at = at;
      from = from;
      octets = octets;
      seconds = times.1;
      keeps_session = keeps_session;
    }))
arrival keeps_session _ _ _ _ = None

-- what follows the letter of an arrival: `now place ip:port hex`, or `now/seconds place ip:port hex`
abbrev pub arrival_of : Bool → List (List ℕ) → Option PlainEvent
arrival_of keeps_session (now ∷ at ∷ from ∷ octets ∷ []) =
    arrival keeps_session (times_in now) (place_in at) (endpoint_in from) (datagram_in octets)
arrival_of keeps_session _ = None

-- a tick, if both its numbers are there
abbrev pub tick : Option ℕ → Option ℕ → Option PlainEvent
tick (Some now) (Some shard) = Some (ticks now shard)
tick _ _ = None

-- what follows the letter of a tick: `now shard`
abbrev pub tick_of : List (List ℕ) → Option PlainEvent
tick_of (now ∷ shard ∷ []) = tick (moment_in now) (index_in shard)
tick_of _ = None

-- the event that the fields of a line state
abbrev pub event_of : List (List ℕ) → Option PlainEvent
event_of (letter ∷ fields) =
    if bytes_eq letter (codes "A") then arrival_of true fields
    else if bytes_eq letter (codes "L") then arrival_of false fields
    else if bytes_eq letter (codes "T") then tick_of fields
    else None
event_of [] = None

abbrev pub meaning_of : Option PlainEvent → LineMeaning
meaning_of (Some event) = states event
meaning_of None = faulty

-- a line without its line feed: skipped where it is empty or begins with a number sign (35), and else
-- fields that are parted by one space (32)
unfoldable pub line_states : List ℕ → LineMeaning
line_states line =
    if length line == 0 || slice_index line 0 == 35 then skipped
    else meaning_of (event_of (parts 32 line))

-- the line of this number, before the lines that follow it
abbrev pub line_before : LineMeaning → ℕ → Result (List PlainEvent) ℕ → Result (List PlainEvent) ℕ
line_before skipped number further = further
line_before (states event) number (Ok events) = Ok (event ∷ events)
line_before (states event) number (Err line) = Err line
line_before faulty number further = Err number

-- the events of the lines, the first of which has this number, or the number of the first faulty line
abbrev pub lines_state : ℕ → List (List ℕ) → Result (List PlainEvent) ℕ
lines_state number [] = Ok []
lines_state number (line ∷ lines) = line_before (line_states line) number (lines_state (number + 1) lines)

-- ## Script
-- Lines that end with a line feed, the last with or without it. Empty lines and lines that begin with `#` are
-- skipped; every other line is an arrival, `A now place ip:port hex`, or `L` in place of `A` where its session isn't
-- kept, or a tick, `T now shard`, with fields parted by one space, or it is faulty. Behind the moment of an arrival may
-- stand `/` and the wall clock's seconds. A script states the list of its events, in order, or the number of its first
-- faulty line, counted from 1 with the skipped ones.
-- Source: ours
-- Rules out: a line that is half read; a fault of a line that isn't there
-- Stands in: `roam_sim` `Script.antt`: `script_states`, `line_states`; `read_script`
--
-- a script: its lines are the parts between line feeds (10), counted from 1
unfoldable pub script_states : List ℕ → Result (List PlainEvent) ℕ
script_states text = lines_state 1 (parts 10 text)
