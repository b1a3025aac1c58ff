use Rattle.roam_conf.specs.Shown.{shown}
use Rattle.roam_server.specs.Served.{IsServedOn}
use Rattle.roam_server.proofs.serving.serve_until_started.Given as goal

-- what was served so far
abbrev pub invariant-loop : goal.invariant-loop
invariant-loop g l = IsServedOn (shown l.configured.config) l.fn.first.shards.items l.served
