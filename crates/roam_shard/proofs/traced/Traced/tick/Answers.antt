-- The event is one more of the shard's history.
use Rattle.std.proofs.Common.{◌≡◌, Ok, Err, ℕ, ◌+◌, ◌-◌, ◌<◌, ◌^◌, List, length, min, ap, refl, sym, subst, arith, ◌∙◌}
use Rattle.roam_core.specs.Events.{PlainEvent, ticks}
use Rattle.roam_core.specs.HappeningsTo.{happening_to}
use Rattle.roam_shard.specs.ShardView.{OpeningView}
use Rattle.roam_shard.specs.History.{Ends, IsTrace, TraceView, step_at, with_event}
use Rattle.roam_shard.specs.Steps.{PlainStep, octets_in, shown_answer}
use Rattle.roam_shard.proofs.HistoryLemmas.{answered, is_trace, stepped}
use Rattle.roam_shard.proofs.OctetLemmas.{octets_more}
use Rattle.roam_shard.proofs.traced.Traced.tick.Goals as goal

pub invariant_of-self-2 : goal.invariant_of-self-2
invariant_of-self-2 g c =
    let i = c.self.inside in
    let t : TraceView = record {
      opening = i.shard.opening;
      states = i.shard.states;
      gone = i.gone;
      events = i.steps.items;
      limit = i.limit;
    } in
    let turned = c.in_ok-turned.turned in
    let shard = ap (λ (v : OpeningView). v.shard) c.opening.ensures in
    let e = ticks c.args.now t.opening.shard in
    let is : ticks c.args.now c.opening.result.now.shard ≡ e = ap (λ (n : ℕ). ticks c.args.now n) shard in
    let all = stepped turned.answer t c.tick.new.self.opening c.tick.new.self.states c.reserve_one.new.steps.items
    c.store.new.steps.items e (ticks c.args.now c.opening.result.now.shard)
    c.tick.ensures.opening c.reserve_one.ensures.items c.store.ensures.items is refl
    c.in_ok-turned.ensures.turn.answer in
    let room = subst (λ (v : TraceView). length v.events < v.limit) (sym c.self.view_is) c.in_ok-check.ensures.below in
    let number = subst (λ (v : TraceView). v.gone + length v.events < 2 ^ 64 - 1) (sym c.self.view_is)
    c.in_ok-check.ensures.number in
    let stored = ap (λ (v : TraceView). v.events) all.same in (
      subst IsTrace (sym all.same) (is_trace t e c.self.invariant.0 all.more room number),
      c.store.ensures.octets
          ∙ (octets_more t.events e i.octets (2 ^ 64 - 1) c.self.invariant.1
          ∙ ap (λ (l : List PlainEvent). min (octets_in l) (2 ^ 64 - 1)) (sym stored)),
    )

pub returns-clause-stores : goal.returns-clause-stores
returns-clause-stores g c =
    let i = c.self.inside in
    let t : TraceView = record {
      opening = i.shard.opening;
      states = i.shard.states;
      gone = i.gone;
      events = i.steps.items;
      limit = i.limit;
    } in
    let turned = c.in_ok-turned.turned in
    let shard = ap (λ (v : OpeningView). v.shard) c.opening.ensures in
    let e = ticks c.args.now t.opening.shard in
    let is : ticks c.args.now c.opening.result.now.shard ≡ e = ap (λ (n : ℕ). ticks c.args.now n) shard in
    let told = c.in_ok-turned.ensures.turn.answer in
    let all = stepped turned.answer t c.tick.new.self.opening c.tick.new.self.states c.reserve_one.new.steps.items
    c.store.new.steps.items e (ticks c.args.now c.opening.result.now.shard)
    c.tick.ensures.opening c.reserve_one.ensures.items c.store.ensures.items is refl told in
    let below = c.in_ok-check.ensures.below in
    let answered_at : TraceView → PlainStep =
    λ v. record { event = ticks c.args.now v.opening.shard; answer = shown_answer turned.answer } in
    record {
      ok = all.same ∙ (λ j. with_event (c.self.view_is j) (ticks c.args.now (c.self.view_is j).opening.shard));
      answer = subst (λ (v : TraceView). answered_at v ≡ step_at v (ticks c.args.now v.opening.shard)) c.self.view_is
          (answered turned.answer t c.tick.new.self.states e told);
      err = tt;
      full = (λ no. absurd (let bad : Ok _ ≡ Err _ = no in cc), λ all. absurd (omega (arith, below, all)));
      history = λ first before ends.
          subst (λ (v : TraceView). Ends v first before) (sym all.same)
          (all.more first before (subst (λ (v : TraceView). Ends v first before) (sym c.self.view_is) ends));
    }

pub returns-clause-happening : goal.returns-clause-happening
returns-clause-happening g c =
    c.in_ok-turned.ensures.turn.happened
    ∙ ap (λ (v : TraceView). happening_to c.args.lines v.opening.config v.states
    (ticks c.args.now v.opening.shard)) c.self.view_is
