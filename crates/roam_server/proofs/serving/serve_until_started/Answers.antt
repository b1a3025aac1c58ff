-- What was served so far, and what is served on.
use Rattle.roam_server.proofs.ServedLemmas.{on-and-on, on-nothing}
use Rattle.roam_server.proofs.serving.serve_until_started.Goals as goal

pub loop-init : goal.loop-init
loop-init g c = record { paused = c.requires.paused; goes_on = on-nothing _ _; may = c.requires.may }

pub loop-preserved : goal.loop-preserved
loop-preserved g c = record {
  paused = c.in_ok-served.ensures.ok.paused;
  goes_on = on-and-on _ _ _ _ _ _ c.loop.invariant.goes_on c.in_ok-served.ensures.ok.goes_on;
  may = c.in_ok-served.ensures.ok.may;
}
