-- Nothing was done.
use Rattle.roam_server.proofs.ServedLemmas.{on-nothing}
use Rattle.roam_server.proofs.serving.not_started.Goals as goal

pub returns : goal.returns
returns c config = λ paused. record { paused = paused; goes_on = on-nothing config _; may = c.requires }
