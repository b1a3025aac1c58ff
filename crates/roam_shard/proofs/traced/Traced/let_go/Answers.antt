-- The stored steps are among those that were let go of then.
use Rattle.std.proofs.Common.{◌≡◌, ◌+◌, [], length, ap, refl, ◌∙◌, sym}
use Rattle.roam_shard.specs.History.{TraceView}
use Rattle.roam_shard.proofs.HistoryLemmas.{still_trace}
use Rattle.roam_shard.proofs.traced.Traced.let_go.Goals as goal

pub invariant_of-self : goal.invariant_of-self
invariant_of-self g c =
    let i = c.self.inside in
    let t : TraceView = record {
      opening = i.shard.opening;
      states = i.shard.states;
      gone = i.gone;
      events = i.steps.items;
      limit = i.limit;
    } in
    let none : c.replace.new.dest.items ≡ [] = ap (λ v. v.items) c.replace.ensures.after ∙ c.new.ensures.items in
    let gone : c.len-self-inside.result ≡ i.gone + length i.steps.items = c.len-self-inside.ensures.value
    ∙ ap (λ (v : TraceView). v.gone + length v.events) (sym c.self.view_is) in
    rw (none, gone) (still_trace t c.self.invariant.0, refl)
