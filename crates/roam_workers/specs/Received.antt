-- What a worker does with what a receiver gives. Ours.
use Rattle.std.specs.Prelude.{◌≡◌, ◌⊎◌, ℕ, List, [], ◌∷◌, Option}
use Rattle.std.specs.declared.alloc.Global.{Global}
use Rattle.roam_conf.specs.declared.exchange_lines.ExchangeLines.{ExchangeLines}
use Rattle.roam_port.specs.declared.heard.Heard.{Heard}
use Rattle.roam_port.specs.declared.heard.Heard.TheVariants as heard
use Rattle.roam_admission.specs.Admission.{PlainJob}
use Rattle.roam_admission.specs.Shown.{shown_arrival}
use Rattle.roam_admission.specs.declared.datagram.Datagram.{Datagram}
use Rattle.roam_history.specs.HubOpening.{HubOpening}
use Rattle.roam_workers.specs.HandedJobs.{ArrivesHere, Receiving}

-- a datagram with the wall clock's seconds, where they are looked at
abbrev pub dated : Datagram Global → Option ℕ → Datagram Global
dated d seconds = record d { seconds = seconds }

-- where a receiver and a worker stand
pub record AtReceiver (T Q : Type 0) : Type 0 where
  pub receiver : T
  pub worker : Receiving Q

abbrev pub at_receiver : {T Q : Type 0} → T → Receiving Q → AtReceiver T Q
at_receiver receiver worker = record { receiver = receiver; worker = worker }

-- the receiver gave one datagram, and the worker handled it
abbrev pub HandlesOne :
    {T Q : Type 0} → HubOpening → (T → T → Heard Global → Type 0) → (Q → List PlainJob) → AtReceiver T Q
    → AtReceiver T Q → Type 0
HandlesOne o hears jobs old new =
    (d : Datagram Global) × (seconds : Option ℕ) × (lines : ExchangeLines) × (now : ℕ)
    × hears old.receiver new.receiver (heard.Datagram d)
    × ArrivesHere o lines now (shown_arrival (dated d seconds)) old.worker new.worker jobs

-- one after the other: where both stood before each, the last one first
abbrev pub HandledBy :
    {T Q : Type 0} → HubOpening → (T → T → Heard Global → Type 0) → (Q → List PlainJob) → AtReceiver T Q
    → List (AtReceiver T Q) → AtReceiver T Q → Type 0
HandledBy o hears jobs start [] end = end ≡ start
HandledBy o hears jobs start (before ∷ earlier) end =
    HandledBy o hears jobs start earlier before × HandlesOne o hears jobs before end

-- a receiver gave nothing more: it wasn't asked, or there was nothing, or it is given up
abbrev pub GaveNoMore : {T : Type 0} → (T → T → Heard Global → Type 0) → T → T → Type 0
GaveNoMore hears old new = (new ≡ old) ⊎ (hears old new heard.Nothing ⊎ hears old new heard.GiveUp)

-- ## Receiving
-- Over any receiver: each datagram that it gave was handled once, in order: taken, answered, refused, dropped, failed,
-- or its job was set aside for another worker. Nothing else was handled, and nothing else was done.
-- Source: ours
-- Rules out: a datagram that a receiver gives and that nobody handles; one that is handled twice, or without having
-- come
-- Stands in: `roam_workers` `Received.antt`: `HandlesEach`; `take_portion`
--
pub record HandlesEach
    {T Q : Type 0}
    (o : HubOpening)
    (hears : T → T → Heard Global → Type 0)
    (old new : Receiving Q)
    (jobs : Q → List PlainJob)
    (before after : T)
    : Type 0 where
  pub stands : List (AtReceiver T Q)
  pub last : T
  pub handled : HandledBy o hears jobs (at_receiver before old) stands (at_receiver last new)
  pub no_more : GaveNoMore hears last after
