use Rattle.std.proofs.Common.{◌<◌, List, ap, length, subst, sym}
use Rattle.roam_pending.specs.DueOrder.{due_list}
use Rattle.roam_pending.specs.PlainEntry.{PlainEntry}
use Rattle.roam_realm.specs.RealmState.{RealmState}
use Rattle.roam_rules.specs.RealmTurn.{entries, state}
use Rattle.roam_rules.proofs.LettingGoLemmas.{least-done, letting_go-end, letting_go-fewer, letting_go-start, letting_go-turn}
use Rattle.roam_rules.proofs.RealmLemmas.{keeps-both, keeps-none}
use Rattle.roam_rules.proofs.realm_broker.RealmBroker.let_go.Goals as goal

-- nothing went yet
pub loop-due-init : goal.loop-due-init
loop-due-init g c = record {
  keeps = keeps-none g.E.Entries c.args.self.now c.requires.realm;
  going = letting_go-start c.args.self.now.settings.now c.args.now
      (state g.E.Entries c.args.self.now) c.requires.done;
}

-- the least due one was answered
pub let_one_go-requires-clause-done : goal.let_one_go-requires-clause-done
let_one_go-requires-clause-done g c =
    let found = rw c.index.ensures at c.in-Some.ensures.found in
    least-done c.args.now (entries g.E.Entries c.loop-due.self) c.in-Some.due found
    c.loop-due.invariant.going.done

pub loop-due-smaller : goal.loop-due-smaller
loop-due-smaller g c =
    let old = c.loop-due.self in
    let found = rw c.index.ensures at c.in-Some.ensures.found in
    let left = ap (λ (s : RealmState). s.entries) c.let_one_go.ensures.state in
    let fewer = letting_go-fewer c.args.now (entries g.E.Entries old) c.in-Some.due
    c.loop-due.invariant.keeps.realm.list.in_order found in
    subst (λ (es : List PlainEntry). length (due_list c.args.now es)
    < length (due_list c.args.now (entries g.E.Entries old))) (sym left) fewer

-- one went
pub loop-due-preserved : goal.loop-due-preserved
loop-due-preserved g c =
    let first = c.args.self.now in
    let old = c.loop-due.self in
    let new = c.let_one_go.new.self in
    let inv = c.loop-due.invariant in
    let found = rw c.index.ensures at c.in-Some.ensures.found in
    record {
      keeps = keeps-both g.E.Entries first old new inv.keeps c.let_one_go.ensures.keeps;
      going = letting_go-turn first.settings.now c.args.now (state g.E.Entries first)
          (state g.E.Entries old) (state g.E.Entries new) c.in-Some.due
          inv.keeps.realm.list.in_order inv.going found c.let_one_go.ensures.state;
    }

-- none is due any more
pub returns-clause-turn : goal.returns-clause-turn
returns-clause-turn g c =
    let first = c.args.self.now in
    let found = rw c.index.ensures at c.in_default.ensures.found in
    letting_go-end first.settings.now c.args.now (state g.E.Entries first)
    (state g.E.Entries c.loop-due.self) c.requires.moment c.loop-due.invariant.going found
