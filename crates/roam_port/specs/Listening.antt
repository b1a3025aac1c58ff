-- The datagrams that are heard at a socket, and how many of its receives failed in a row (ours).
use Rattle.std.specs.Prelude.{◌≡◌, ◌==◌, ℕ, ◌+◌, min, true, List, Option, None, if◌then◌else◌}
use Rattle.roam_conf.specs.declared.place.Place.{Place}
use Rattle.roam_admission.specs.Admission.{Arrival}
use Rattle.roam_admission.specs.Shown.{shown_arrival}
use Rattle.roam_port.specs.Port.{PortCall, came, nothing_came, receive_failed, went, send_failed, IsOneCall}
use Rattle.roam_port.specs.declared.heard.Heard.{Heard}
use Rattle.roam_port.specs.declared.heard.Heard.TheVariants as heard
use Rattle.roam_port.specs.declared.heard.TheConstants.{FAULTS_TO_GIVE_UP}

-- what is heard, without its memory
pub data PlainHeard : Type 0 where
  datagram : Arrival → PlainHeard
  nothing : PlainHeard
  give_up : PlainHeard

abbrev pub shown_heard : {A : Type 0} → Heard A → PlainHeard
shown_heard (heard.Datagram d) = datagram (shown_arrival d)
shown_heard heard.Nothing = nothing
shown_heard heard.GiveUp = give_up

-- how many receives failed in a row after one more, up to the last that counts
abbrev pub faults_after_fault : ℕ → ℕ
faults_after_fault faults = min FAULTS_TO_GIVE_UP (faults + 1)

-- what a receive leaves of that count, and what is heard by it: a datagram that came is never lost
abbrev pub IsHeard : PortCall → Place → ℕ → ℕ → PlainHeard → Type 0
IsHeard (came octets from) at old new h =
    (new ≡ 0) × (h ≡ datagram (record { at = at; from = from; octets = octets; seconds = None; keeps_session = true }))
IsHeard nothing_came at old new h = (new ≡ 0) × (h ≡ nothing)
IsHeard receive_failed at old new h =
    (new ≡ faults_after_fault old)
    × (h ≡ (if faults_after_fault old == FAULTS_TO_GIVE_UP then give_up else nothing))
IsHeard (went place to octets) at old new h = ⊥
IsHeard (send_failed why place to octets) at old new h = ⊥

-- ## Receiving with a count of faults
-- One receive. What came is heard as an arrival with its octets, its source and the socket's place (the wall clock's
-- seconds come to it later); the count of receives that failed in a row is 0 again, also where nothing came. Where the
-- receive failed the count rises by one, up to 100; at 100 the answer is that the socket is to be given up.
-- Source: ours
-- Rules out: octets behind the datagram; a datagram that is lost for want of memory; a socket that fails for ever; one
-- that is given up for faults far apart
-- Stands in: `roam_port` `Listening.antt`: `Listens`, `IsHeard`, `faults_after_fault`; `listen`
--
-- one receive was made, and no other call; and that is what was heard by it
pub record Listens
    {A : Type 0}
    (old new : Option (List PortCall))
    (at : Place)
    (old_faults new_faults : ℕ)
    (result : Heard A)
    : Type 0 where
  pub call : PortCall
  pub made : IsOneCall old new call
  pub heard : IsHeard call at old_faults new_faults (shown_heard result)
