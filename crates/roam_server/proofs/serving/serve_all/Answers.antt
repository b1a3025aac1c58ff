-- Each shard has served from the beginning on.
use Rattle.std.proofs.Common.{refl, ◌∙◌}
use Rattle.roam_server.proofs.ServedLemmas.{all-served, served-begun}
use Rattle.roam_server.proofs.serving.serve_all.Goals as goal

pub serve_once-requires-clause-paused : goal.serve_once-requires-clause-paused
serve_once-requires-clause-paused g c lives outlives = c.in_ok-begun.ensures.ok.1.paused

pub loop-init : goal.loop-init
loop-init g c =
    let begun = c.in_ok-begun.ensures.ok in
    let served = c.in_ok-served.ensures.ok in
    record {
      paused = served.paused;
      done = (begun.0, served.goes_on _ (served-begun _ _ _ begun.1));
      may = served.may;
      count = refl;
    }

pub loop-preserved : goal.loop-preserved
loop-preserved g c =
    let served = c.in_ok-served-2.ensures.ok in
    let first = c.in_ok-first.ensures.ok in
    let changed = c.change-changed.ensures in
    let before = c.loop.invariant.done in
    record {
      paused = served.paused;
      done = (before.0, served.goes_on _ (first.goes_on _ (changed.goes_on _ before.1)));
      may = served.may;
      count = changed.count ∙ c.loop.invariant.count;
    }

pub returns-in-Over-clause-ok : goal.returns-in-Over-clause-ok
returns-in-Over-clause-ok g c =
    all-served _ _ c.loop.invariant.done.0 _ c.loop.invariant.done.1 c.loop.invariant.paused c.loop.invariant.count
