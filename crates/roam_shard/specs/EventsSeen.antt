-- The event of a step, as it is looked at (ours).
use Rattle.std.specs.Prelude.{None}
use Rattle.roam_core.specs.Events.{PlainEvent, arrives, ticks}
use Rattle.roam_shard.specs.declared.trace_look.EventRef.{EventRef}
use Rattle.roam_shard.specs.declared.trace_look.EventRef.TheVariants as event

abbrev pub shown_event_ref : EventRef → PlainEvent
shown_event_ref (event.Arrived now at from octets keeps_session) =
    arrives now (record {
      at = at;
      from = from;
      octets = octets.now;
      seconds = None;
      keeps_session = keeps_session;
    })
shown_event_ref (event.Ticked now shard) = ticks now shard
