-- A realm that goes on gets lanes; one that doesn't, numbers that nothing uses.
use Rattle.std.proofs.Common.{◌∙◌, ℕ, List, ap, refl, sym, subst}
use Rattle.roam_conf.specs.Shown.{shown}
use Rattle.roam_realm.specs.declared.start.Start.{Start}
use Rattle.roam_shard.specs.Pausing.{GoesOn, begin_at, opening_under}
use Rattle.roam_shard.specs.ShardView.{IsStart}
use Rattle.roam_shard.proofs.FollowLemmas.{good_begin, ready_fresh, ready_over}
use Rattle.roam_shard.proofs.paused.Paused.reserve_one.Goals as goal

pub opened_at-requires-clause-start : goal.opened_at-requires-clause-start
opened_at-requires-clause-start g c =
    let p = c.args.self.now in
    let is = c.begin_at-start.ensures ∙ ap (λ (ns : List _). begin_at ns c.args.realm) c.deref.ensures.value in
    subst (λ (s : Start). IsStart s) (sym is)
    (good_begin (opening_under (shown c.args.old.now) p) p.entries p.numbers.items c.requires.stands c.args.realm)

pub returns-then-goes_on-clause-ready : goal.returns-then-goes_on-clause-ready
returns-then-goes_on-clause-ready g c =
    ready_over (shown c.args.old.now) (shown c.args.new.now) c.reserve_lanes.new.self.shard c.args.realm
    c.reserve_lanes.new.self.numbers.items c.in_ok-lanes.lanes
    (subst (λ (n : ℕ). GoesOn (shown c.args.old.now) (shown c.args.new.now) n c.args.realm)
    (sym c.reserve_lanes.ensures.still.shard) (c.if-goes_on.ensures.0 refl)) c.in_ok-lanes.ensures.ready

pub returns-clause-ready : goal.returns-clause-ready
returns-clause-ready g c =
    let p = c.args.self.now in
    let is = c.begin_at-start.ensures ∙ ap (λ (ns : List _). begin_at ns c.args.realm) c.deref.ensures.value in
    let away : GoesOn (shown c.args.old.now) (shown c.args.new.now) p.shard c.args.realm → ⊥ =
    λ goes. absurd (cc (c.if-goes_on.ensures.1 goes)) in
    ready_fresh (shown c.args.old.now) (shown c.args.new.now) p.shard c.args.realm p.numbers.items
    c.begin_at-start.result c.in_ok-numbers.numbers away is c.in_ok-numbers.ensures
