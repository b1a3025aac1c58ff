-- Nothing was done.
use Rattle.roam_conf.specs.Shown.{shown}
use Rattle.roam_server.proofs.serving.serve_again.Goals as goal

pub returns-in-Err-clause-ok : goal.returns-in-Err-clause-ok
returns-in-Err-clause-ok g c = c.not_started.ensures (shown c.args.configured.now.config) c.requires
