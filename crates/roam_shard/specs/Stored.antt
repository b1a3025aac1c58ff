-- The meaning of the stored form of an event (ours).
use Rattle.std.specs.Prelude.{◌≡◌, None}
use Rattle.roam_core.specs.Events.{PlainEvent, arrives, ticks}
use Rattle.roam_shard.specs.declared.stored_event.StoredEvent.{StoredEvent}
use Rattle.roam_shard.specs.declared.stored_event.StoredEvent.TheVariants as stored

-- an event as a history keeps it: an arrival without the wall clock's seconds
abbrev pub HasNoClock : PlainEvent → Type 0
HasNoClock (arrives now a) = a.seconds ≡ None
HasNoClock (ticks now shard) = Unit {0}

abbrev pub shown_stored : {A : Type 0} → StoredEvent A → PlainEvent
shown_stored (stored.Arrived at from keeps_session now octets) =
    arrives now (record {
      at = at;
      from = from;
      octets = octets;
      seconds = None;
      keeps_session = keeps_session;
    })
shown_stored (stored.Ticked shard now) = ticks now shard
