-- The report of a run on the events that it lost, and of the realms where its outcome couldn't grow (ours).
use Rattle.std.specs.Prelude.{◌≡◌, ℕ, ◌+◌, ◌<◌, ◌≤◌, Bool, not, List, [], ◌∷◌, length, take, slice_get, IsSomeAnd}
use Rattle.std.specs.List.{AllByRecursion}
use Rattle.roam_conf.specs.Config.{ConfigView}
use Rattle.roam_realm.specs.RealmState.{RealmState}
use Rattle.roam_core.specs.Events.{PlainEvent, is_lost, kept}
use Rattle.roam_core.specs.ManyRealms.{answers_to}
use Rattle.roam_core.specs.Steps.{EventWantsMemory}

-- each place is below all later ones
abbrev pub AreRising : List ℕ → Type 0
AreRising [] = Unit {0}
AreRising (p ∷ ps) = AllByRecursion (λ q. p < q) ps × AreRising ps

-- places of so many events, counted from 0: each of an event that is there, in order and once
pub record ArePlaces (count : ℕ) (places : List ℕ) : Type 0 where
  pub there : AllByRecursion (λ p. p < count) places
  pub rising : AreRising places

-- at each of some places there is an event, and it wants memory
abbrev pub EachWantsMemory : ConfigView → List PlainEvent → List ℕ → Type 0
EachWantsMemory config events places =
    AllByRecursion (λ p. IsSomeAnd (slice_get events p) (EventWantsMemory config)) places

-- some events, from this place on, were given to a broker in their order: those at the lost places met
-- want of memory there, and all others were answered. `steps` is what each step says of itself: from one
-- broker, with an event, whether it is answered, to the next broker
abbrev pub WereGiven :
    {X : Type 0} → (X → PlainEvent → Bool → X → Type 0) → ℕ → List ℕ → X → List PlainEvent → X → Type 0
WereGiven steps place lost first [] last = first ≡ last
WereGiven {X = X} steps place lost first (e ∷ es) last =
    (next : X) × steps first e (not (is_lost place lost)) next
    × WereGiven steps (place + 1) lost next es last

-- ## After some of the events
-- The states after the first so many events of a list, without those at some lost places: what a run leaves
-- whose outcome couldn't grow.
-- Source: ours
-- Rules out: an error after which nothing is known of a realm
-- Stands in: `roam_core` `Runs.antt`: `StandsAfterSome`; `run`
--
-- a broker stands after some of the events, whatever it is: after the first `count` of the list, which
-- were given to it in their order; those at the lost places wanted memory, and changed no state. What a run
-- leaves whose outcome couldn't grow
pub record StandsAfterSome {X : Type 0} (config : X → ConfigView) (states : X → List RealmState)
    (steps : X → PlainEvent → Bool → X → Type 0) (old new : X) (events : List PlainEvent)
    : Type 0 where
  pub count : ℕ
  pub some : count ≤ length events
  pub lost : List ℕ
  pub places : ArePlaces count lost
  pub wanted : EachWantsMemory (config old) events lost
  pub given : WereGiven steps 0 lost old (take count events) new
  pub stands :
      states new ≡ (answers_to (config old) (states old) (kept lost (take count events))).states
