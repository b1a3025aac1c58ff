-- Each realm in its shard's history (ours): the packets that were sent for it there are those that its
-- own written broker sends for its own events, and each of them has its origin there. A history is a whole
-- one: of the steps that were let go of, too.
use Rattle.std.specs.Prelude.{◌≡◌, ℕ, ◌<◌, ◌≤◌, List, [], ◌∷◌, ◌++◌, length, map}
use Rattle.roam_admission.specs.Admission.{PlainOut}
use Rattle.roam_realm.specs.RealmConfig.{realm_config}
use Rattle.roam_core.specs.Events.{PlainEvent, events_of_realm}
use Rattle.roam_core.specs.Isolation.{packets_for}
use Rattle.roam_core.specs.Openings.{one_realm_packets, start_of}
use Rattle.roam_core.specs.Provenance.{HasProvenance}
use Rattle.roam_shard.specs.ShardView.{OpeningView}
use Rattle.roam_shard.specs.History.{IsHistory, at_opening}
use Rattle.roam_shard.specs.Steps.{PlainStep}

-- the events of some steps, and all that was sent in them
abbrev pub events_in : List PlainStep → List PlainEvent
events_in steps = map (λ s. s.event) steps

abbrev pub packets_in : List PlainStep → List PlainOut
packets_in [] = []
packets_in (s ∷ ss) = s.answer.packets ++ packets_in ss

-- ## Realms in histories
-- In a shard's one history, for each realm, the packets of that realm in all its answers are those of the
-- one-realm run over that realm's own events in it, from that realm's start; and each has its origin there, as
-- of a run. So isolation and provenance hold of what threads recorded, from the hub's opening to its end.
-- Source: ours
-- Rules out: a promise that ends where threads begin, or where steps are let go of
-- Stands in: `roam_hub` `InHistories.antt`: `RealmsInHistories`, `ProvenanceInHistories`, `packets_in`,
-- `events_in`; the laws of these names
--
abbrev pub RealmsInHistories : Type 0
RealmsInHistories =
    (o : OpeningView) (steps : List PlainStep) (realm : ℕ)
    → 1 ≤ o.config.shards → realm < length o.starts → IsHistory (at_opening o) steps
    → packets_for realm (packets_in steps)
    ≡ one_realm_packets (realm_config o.config realm) (start_of o.starts realm)
    (events_of_realm o.config realm (events_in steps))

-- each packet that was sent for a realm is the forwarded one of a request of the realm's own events there,
-- the returned one of a reply that was taken for such a packet, or the NAK of a reverse request
abbrev pub ProvenanceInHistories : Type 0
ProvenanceInHistories =
    (o : OpeningView) (steps : List PlainStep)
    → 1 ≤ o.config.shards → IsHistory (at_opening o) steps
    → HasProvenance o.config o.starts (events_in steps) (packets_in steps)
