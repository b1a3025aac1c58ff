-- Nothing was done.
use Rattle.roam_conf.specs.Shown.{shown}
use Rattle.roam_server.proofs.serving.serve_changed.Goals as goal

pub returns-in-NoMemory-clause-ok : goal.returns-in-NoMemory-clause-ok
returns-in-NoMemory-clause-ok g c = c.not_started.ensures (shown c.args.configured.now.config) c.requires.paused
