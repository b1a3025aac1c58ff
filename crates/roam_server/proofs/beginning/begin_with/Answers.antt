-- What the file has is taken up, or nothing is.
use Rattle.std.specs.Prelude.{[]}
use Rattle.roam_conf.specs.Shown.{shown}
use Rattle.roam_server.specs.Begins.{HaveBegun}
use Rattle.roam_server.proofs.BeginLemmas.{by-some}
use Rattle.roam_server.proofs.beginning.begin_with.Goals as goal

pub returns-in-None-clause-ok : goal.returns-in-None-clause-ok
returns-in-None-clause-ok g c =
    by-some c.empty_shards.result [] (λ items shards. HaveBegun (shown c.args.config.now) items shards.items)
    c.empty_shards.ensures.ok
