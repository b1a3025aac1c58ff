-- The calls of a socket, and its answers (ours).
use Rattle.std.specs.Prelude.{◌≡◌, ℕ, List, [], ◌∷◌, ◌++◌, take, Option, Some, None, option_map, Result, Ok, Err}
use Rattle.roam_address.specs.declared.endpoint.Endpoint.{Endpoint}
use Rattle.roam_conf.specs.declared.place.Place.{Place}
use Rattle.roam_port.specs.declared.port.SendFault.{SendFault}

-- ## Call of a port
-- What is asked of a socket, with its answer: a datagram came, from where, with which octets; nothing came; a
-- receive failed; a datagram went out, from which place and to where; a send failed. A port that keeps account has
-- each receive once, the oldest first. Each port says itself to which state a send leads. Code for all ports knows
-- nothing of that, so it makes just the sends that its contract names. What a socket of the system does with one is
-- not said.
-- Source: ours
-- Rules out: a second receive that nobody sees; a packet that is sent twice, or that nobody gave
-- Stands in: `roam_port` `Port.antt`: `PortCall`, `IsOneCall`, `MakesAll`; the trait `Port`
--
-- a call of a port, and its answer
pub data PortCall : Type 0 where
  -- a datagram came: its octets, and its source
  came : List ℕ → Endpoint → PortCall
  nothing_came : PortCall
  receive_failed : PortCall
  -- a datagram went out: from which place, where to, and its octets
  went : Place → Endpoint → List ℕ → PortCall
  -- it didn't, and why
  send_failed : SendFault → Place → Endpoint → List ℕ → PortCall

-- a receive, by its answer and what it left in the buffer
abbrev pub receive_call : {E : Type 0} → Result (Option (ℕ × Endpoint)) E → List ℕ → PortCall
receive_call (Ok (Some got)) buffer = came (take got.0 buffer) got.1
receive_call (Ok None) buffer = nothing_came
receive_call (Err why) buffer = receive_failed

-- a send, by its answer
abbrev pub send_call : Result (Unit {0}) SendFault → Place → Endpoint → List ℕ → PortCall
send_call (Ok done) from to octets = went from to octets
send_call (Err why) from to octets = send_failed why from to octets

-- a port that keeps account of its calls keeps account of this one, and of no other
abbrev pub IsOneCall : Option (List PortCall) → Option (List PortCall) → PortCall → Type 0
IsOneCall old new call = new ≡ option_map (λ calls. calls ++ call ∷ []) old

-- from one state of a port to another just these sends were made, the oldest first
abbrev pub MakesAll : {P : Type 0} → (P → P → PortCall → Type 0) → P → P → List PortCall → Type 0
MakesAll hands old new [] = new ≡ old
MakesAll {P} hands old new (call ∷ calls) = (between : P) × hands old between call × MakesAll hands between new calls
