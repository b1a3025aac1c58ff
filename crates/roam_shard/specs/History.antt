-- Histories of one shard: the written answers, one after the other (ours).
use Rattle.std.specs.Prelude.{◌≡◌, ◌↔◌, ℕ, ◌+◌, ◌<◌, ◌≤◌, ◌^◌, true, List, [], ◌∷◌, ◌++◌, length}
use Rattle.std.specs.Prelude.{Result, IfOk, OnErr, OnOk}
use Rattle.roam_conf.specs.Config.{ConfigView}
use Rattle.roam_admission.specs.Admission.{PlainJob, admission, admitted}
use Rattle.roam_realm.specs.RealmState.{RealmState}
use Rattle.roam_core.specs.Events.{PlainEvent, arrives, ticks, is_in_shard}
use Rattle.roam_core.specs.ManyRealms.{BrokerTurn, answer_to, packets_in_turn, refusal_given, states_after}
use Rattle.roam_shard.specs.ShardView.{OpeningView, opened}
use Rattle.roam_shard.specs.Steps.{PlainAnswer, PlainStep}

-- what is answered, as a turn of the broker says
abbrev pub answer_in : BrokerTurn → PlainAnswer
answer_in turn = record { packets = packets_in_turn turn; refusal = refusal_given turn }

-- an arrival is given to a realm of the shard
pub record IsForShard (config : ConfigView) (shard : ℕ) (job : PlainJob) : Type 0 where
  pub own : is_in_shard config shard job.realm ≡ true

-- an event of a shard: its own tick, or an arrival that gives a job to one of its realms
abbrev pub IsOfShard : ConfigView → ℕ → PlainEvent → Type 0
IsOfShard config shard (ticks now s) = s ≡ shard
IsOfShard config shard (arrives now a) =
    (job : PlainJob) × (admission config a ≡ admitted job) × IsForShard config shard job

-- the states after an event
abbrev pub states_next : ConfigView → List RealmState → PlainEvent → List RealmState
states_next config states event = states_after states (answer_to config states event)

-- the states after some steps
abbrev pub states_then : ConfigView → List RealmState → List PlainStep → List RealmState
states_then config states [] = states
states_then config states (s ∷ ss) = states_then config (states_next config states s.event) ss

-- a step of a shard: one of its events, with the written answer
pub record IsStep (config : ConfigView) (shard : ℕ) (states : List RealmState) (s : PlainStep) : Type 0 where
  pub event : IsOfShard config shard s.event
  pub answer : s.answer ≡ answer_in (answer_to config states s.event)

-- some steps, one after the other, from these states
abbrev pub AreSteps : ConfigView → ℕ → List RealmState → List PlainStep → Type 0
AreSteps config shard states [] = Unit {0}
AreSteps config shard states (s ∷ ss) =
    IsStep config shard states s × AreSteps config shard (states_next config states s.event) ss

-- where a history begins: of which shard, of which configuration, and the states of all realms. A realm of another
-- shard stays as it is there
pub record Beginning : Type 0 where
  pub shard : ℕ
  pub config : ConfigView
  pub states : List RealmState

-- at a shard's opening
abbrev pub at_opening : OpeningView → Beginning
at_opening o = record { shard = o.shard; config = o.config; states = opened o }

-- a history of a shard from a beginning
abbrev pub IsHistory : Beginning → List PlainStep → Type 0
IsHistory b steps = AreSteps b.config b.shard b.states steps

-- where it ends
abbrev pub end_of : Beginning → List PlainStep → List RealmState
end_of b steps = states_then b.config b.states steps

-- the steps of events, one after the other from these states: each with the written answer
abbrev pub steps_from : ConfigView → List RealmState → List PlainEvent → List PlainStep
steps_from config states [] = []
steps_from config states (e ∷ es) =
    record { event = e; answer = answer_in (answer_to config states e) }
    ∷ steps_from config (states_next config states e) es

-- a trace: how its shard began and stands, how many of its steps were let go of, the events of the stored ones, and
-- how many of these it can hold
pub record TraceView : Type 0 where
  pub opening : OpeningView
  pub states : List RealmState
  pub gone : ℕ
  pub events : List PlainEvent
  pub limit : ℕ

-- a trace with one step more: its shard stands where the written broker does after that step's event
abbrev pub with_event : TraceView → PlainEvent → TraceView
with_event t e = record t {
  states = states_next t.opening.config t.states e;
  events = t.events ++ e ∷ [];
}

-- a trace whose stored steps were let go of: all else stays
abbrev pub without_steps : TraceView → TraceView
without_steps t = record t { gone = t.gone + length t.events; events = [] }

-- where a trace's shard began, if its realms had these states there
abbrev pub begun : TraceView → List RealmState → Beginning
begun t states = record { shard = t.opening.shard; config = t.opening.config; states = states }

-- the stored steps of a trace, where these ones were before, from these states: their answers follow from that
abbrev pub stored_steps : TraceView → List RealmState → List PlainStep → List PlainStep
stored_steps t states before = steps_from t.opening.config (end_of (begun t states) before) t.events

-- these steps, and then the stored ones, are a history of a trace's shard, from these states; and where
-- it ends the shard stands
pub record Ends (t : TraceView) (states : List RealmState) (before : List PlainStep) : Type 0 where
  pub history : IsHistory (begun t states) (before ++ stored_steps t states before)
  pub stands : t.states ≡ end_of (begun t states) (before ++ stored_steps t states before)

-- ## Trace
-- A shard with the events of its stored steps: with the steps that were let go of before them they are a history from
-- some states, the shard stands where that ends, and they are at most as many as the limit. Their answers aren't
-- stored: each is the written one after the steps before it, so the history says which. A new one has no steps, and
-- begins where its shard stands. A call adds its event and gives the written answer to it, or changes nothing; it is
-- refused as full exactly when as many events are stored as the limit. To let go takes the stored ones out, and
-- changes nothing else.
-- Source: ours
-- Rules out: a step that was answered and not stored, or stored and not answered; a full trace that drops a
-- state with its steps
-- Stands in: `roam_shard` `History.antt`: `IsTrace`, `Ends`, `Stores`, `with_event`; the invariant of `Traced`,
-- `Traced::step`, `take`, `tick`, `let_go`
--
-- what a trace keeps: there are states in which it began, and steps, as many as were let go of, such that these and
-- then the stored ones are a history of its shard from there, and where it ends the shard stands. At most as many as
-- the limit are stored
pub record IsTrace (t : TraceView) : Type 0 where
  pub first : List RealmState
  pub before : List PlainStep
  pub count : length before ≡ t.gone
  pub ends : Ends t first before
  pub fits : length t.events ≤ t.limit
  pub size : t.limit < 2 ^ 64
  pub all : t.gone + length t.events < 2 ^ 64

-- whatever history a trace ends, it then ends that history with these steps more
abbrev pub GoesOn : TraceView → TraceView → Type 0
GoesOn old new =
    (states : List RealmState) (before : List PlainStep) → Ends old states before → Ends new states before

-- the step of an event at a trace: with the written answer
abbrev pub step_at : TraceView → PlainEvent → PlainStep
step_at t e = record { event = e; answer = answer_in (answer_to t.opening.config t.states e) }

-- what a call does to a trace: this event is stored, what it gives says the written answer, and the trace goes
-- on; with an error it is as it was. The call says that the trace is full just where as many steps as the limit were
-- stored
pub record Stores {X E : Type 0} (old new : TraceView) (event : PlainEvent) (result : Result X E)
    (says : X → PlainAnswer) (says_full : Type 0) : Type 0 where
  pub ok : OnOk result (new ≡ with_event old event)
  pub answer : IfOk result (λ x. record { event = event; answer = says x } ≡ step_at old event)
  pub err : OnErr result (new ≡ old)
  pub full : says_full ↔ (length old.events ≡ old.limit)
  pub history : OnOk result (GoesOn old new)
