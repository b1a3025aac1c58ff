-- What a receiver gave, one datagram after the other.
use Rattle.std.proofs.Common.{ℕ, List, [], ◌∷◌, Option, refl}
use Rattle.std.specs.declared.alloc.Global.{Global}
use Rattle.roam_conf.specs.declared.exchange_lines.ExchangeLines.{ExchangeLines}
use Rattle.roam_port.specs.declared.heard.Heard.{Heard}
use Rattle.roam_port.specs.declared.heard.Heard.TheVariants as heard
use Rattle.roam_admission.specs.Admission.{PlainJob}
use Rattle.roam_admission.specs.Shown.{shown_arrival}
use Rattle.roam_admission.specs.declared.datagram.Datagram.{Datagram}
use Rattle.roam_history.specs.HubOpening.{HubOpening}
use Rattle.roam_workers.specs.HandedJobs.{ArrivesHere, Receiving}
use Rattle.roam_workers.specs.Received.{AtReceiver, GaveNoMore, HandledBy, HandlesEach, at_receiver, dated}

module _ {T Q : Type 0} (o : HubOpening) (hears : T → T → Heard Global → Type 0) (jobs : Q → List PlainJob) where
  -- some were given so far, and handled
  abbrev pub HandlesSome : T → Receiving Q → T → Receiving Q → Type 0
  HandlesSome before old now new =
      (stands : List (AtReceiver T Q)) × HandledBy o hears jobs (at_receiver before old) stands (at_receiver now new)

  -- none yet
  pub handled_none : (r : T) (w : Receiving Q) → HandlesSome r w r w
  handled_none r w = ([], refl)

  -- one more
  pub handled_more :
      (before : T) (old : Receiving Q) (r : T) (w : Receiving Q) (next : T) (new : Receiving Q) (d : Datagram Global)
      (seconds : Option ℕ) (lines : ExchangeLines) (now : ℕ) → HandlesSome before old r w
      → hears r next (heard.Datagram d) → ArrivesHere o lines now (shown_arrival (dated d seconds)) w new jobs
      → HandlesSome before old next new
  handled_more before old r w next new d seconds lines now some gave did =
      (at_receiver r w ∷ some.0, (some.1, (d, seconds, lines, now, gave, did)))

  -- and no more
  pub handled_each : (before : T) (old : Receiving Q) (r : T) (w : Receiving Q) (after : T)
      → HandlesSome before old r w → GaveNoMore hears r after → HandlesEach o hears old w jobs before after
  handled_each before old r w after some none = record { stands = some.0; last = r; handled = some.1; no_more = none }
