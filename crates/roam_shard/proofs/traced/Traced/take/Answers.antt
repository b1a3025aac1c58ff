-- The event is one more of the shard's history.
use Rattle.std.proofs.Common.{◌≡◌, ◌+◌, ◌-◌, ◌<◌, ◌^◌, true, List, length, min, ap, sym, subst, arith, ◌∙◌}
use Rattle.roam_admission.specs.Events.{IsEvent, arrival_of}
use Rattle.roam_admission.specs.Shown.{shown_job}
use Rattle.roam_core.specs.Events.{PlainEvent, arrives, is_in_shard}
use Rattle.roam_core.specs.HappeningsTo.{happening_to}
use Rattle.roam_core.specs.Shown.{shown_event}
use Rattle.roam_shard.specs.History.{Ends, IsTrace, TraceView, step_at, with_event}
use Rattle.roam_shard.specs.Steps.{octets_came, octets_in}
use Rattle.roam_shard.proofs.HistoryLemmas.{answered, is_trace, job_answer, job_happened, job_of_shard, stepped}
use Rattle.roam_shard.proofs.OctetLemmas.{octets_more}
use Rattle.roam_shard.proofs.traced.Traced.take.Goals as goal

pub invariant_of-self-2 : goal.invariant_of-self-2
invariant_of-self-2 g c =
    let i = c.self.inside in
    let t : TraceView = record {
      opening = i.shard.opening;
      states = i.shard.states;
      gone = i.gone;
      events = i.steps.items;
      limit = i.limit;
    } in
    let job = shown_job c.args.job in
    let e = arrives c.args.now (arrival_of job) in
    let event : IsEvent t.opening.config job =
    subst (λ (v : TraceView). IsEvent v.opening.config job) (sym c.self.view_is) c.requires.event in
    let own : is_in_shard t.opening.config t.opening.shard job.realm ≡ true =
    subst (λ (v : TraceView). is_in_shard v.opening.config v.opening.shard job.realm ≡ true) (sym c.self.view_is)
    c.requires.own in
    let all = stepped c.in-Ok.turned.answer t c.step.new.self.opening c.step.new.self.states
    c.reserve_one.new.steps.items c.store.new.steps.items e (shown_event c.event_of.result)
    c.step.ensures.opening c.reserve_one.ensures.items c.store.ensures.items c.event_of.ensures
    (job_of_shard t.opening.config t.opening.shard c.args.now job event own)
    (job_answer c.in-Ok.turned.answer t.opening.config t.states c.step.new.self.states c.args.now job event
    c.in-Ok.ensures.turn.answer) in
    let room = subst (λ (v : TraceView). length v.events < v.limit) (sym c.self.view_is) c.in_default.ensures.below in
    let number = subst (λ (v : TraceView). v.gone + length v.events < 2 ^ 64 - 1) (sym c.self.view_is)
    c.in_default.ensures.number in
    let stored = ap (λ (v : TraceView). v.events) all.same in
    let octets = c.store.ensures.octets
    ∙ ap (λ (x : PlainEvent). min (i.octets + octets_came x) (2 ^ 64 - 1)) c.event_of.ensures in (
      subst IsTrace (sym all.same) (is_trace t e c.self.invariant.0 all.more room number),
      octets
          ∙ (octets_more t.events e i.octets (2 ^ 64 - 1) c.self.invariant.1
          ∙ ap (λ (l : List PlainEvent). min (octets_in l) (2 ^ 64 - 1)) (sym stored)),
    )

pub returns-clause-stores : goal.returns-clause-stores
returns-clause-stores g c =
    let i = c.self.inside in
    let t : TraceView = record {
      opening = i.shard.opening;
      states = i.shard.states;
      gone = i.gone;
      events = i.steps.items;
      limit = i.limit;
    } in
    let job = shown_job c.args.job in
    let e = arrives c.args.now (arrival_of job) in
    let event : IsEvent t.opening.config job =
    subst (λ (v : TraceView). IsEvent v.opening.config job) (sym c.self.view_is) c.requires.event in
    let own : is_in_shard t.opening.config t.opening.shard job.realm ≡ true =
    subst (λ (v : TraceView). is_in_shard v.opening.config v.opening.shard job.realm ≡ true) (sym c.self.view_is)
    c.requires.own in
    let told = job_answer c.in-Ok.turned.answer t.opening.config t.states c.step.new.self.states c.args.now job event
    c.in-Ok.ensures.turn.answer in
    let all = stepped c.in-Ok.turned.answer t c.step.new.self.opening c.step.new.self.states
    c.reserve_one.new.steps.items c.store.new.steps.items e (shown_event c.event_of.result)
    c.step.ensures.opening c.reserve_one.ensures.items c.store.ensures.items c.event_of.ensures
    (job_of_shard t.opening.config t.opening.shard c.args.now job event own) told in
    let below = c.in_default.ensures.below in
    record {
      ok = all.same ∙ (λ j. with_event (c.self.view_is j) e);
      answer = answered c.in-Ok.turned.answer t c.step.new.self.states e told ∙ (λ j. step_at (c.self.view_is j) e);
      err = tt;
      full = (λ no. absurd no, λ all. absurd (omega (arith, below, all)));
      history = λ first before ends.
          subst (λ (v : TraceView). Ends v first before) (sym all.same)
          (all.more first before (subst (λ (v : TraceView). Ends v first before) (sym c.self.view_is) ends));
    }

pub returns-clause-happening : goal.returns-clause-happening
returns-clause-happening g c =
    let i = c.self.inside in
    let t : TraceView = record {
      opening = i.shard.opening;
      states = i.shard.states;
      gone = i.gone;
      events = i.steps.items;
      limit = i.limit;
    } in
    let job = shown_job c.args.job in
    let event : IsEvent t.opening.config job =
    subst (λ (v : TraceView). IsEvent v.opening.config job) (sym c.self.view_is) c.requires.event in
    c.in-Ok.ensures.turn.happened
    ∙ (job_happened c.args.lines t.opening.config t.states c.args.now job event
    ∙ ap (λ (v : TraceView). happening_to c.args.lines v.opening.config v.states
    (arrives c.args.now (arrival_of job))) c.self.view_is)
