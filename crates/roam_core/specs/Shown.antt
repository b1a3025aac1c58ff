-- The code's events, as they are seen.
use Rattle.std.specs.Prelude.{List, map}
use Rattle.roam_admission.specs.Shown.{shown_arrival}
use Rattle.roam_core.specs.declared.event.Event.{Event}
use Rattle.roam_core.specs.declared.event.Event.TheVariants as event
use Rattle.roam_core.specs.Events.{PlainEvent, arrives, ticks}

abbrev pub shown_event : {A : Type 0} → Event A → PlainEvent
shown_event (event.Arrive now datagram) = arrives now (shown_arrival datagram)
shown_event (event.Tick now shard) = ticks now shard

abbrev pub shown_events : {A : Type 0} → List (Event A) → List PlainEvent
shown_events events = map shown_event events
