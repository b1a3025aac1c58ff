-- What the file has is taken up, or nothing is.
use Rattle.std.specs.Prelude.{[]}
use Rattle.roam_conf.specs.Shown.{shown}
use Rattle.roam_sessions.specs.ShownLedgers.{shown_items}
use Rattle.roam_server.specs.Begins.{HaveBegun}
use Rattle.roam_server.proofs.BeginLemmas.{by-some}
use Rattle.roam_server.proofs.beginning.begin_from.Goals as goal

pub returns-in_ok-shards-in-Ok-clause-ok : goal.returns-in_ok-shards-in-Ok-clause-ok
returns-in_ok-shards-in-Ok-clause-ok g c =
    (shown_items c.as_slice.result.now, c.in_ok-shards-in-Ok.ensures.ok)

pub returns-in-Err-Fault-clause-ok : goal.returns-in-Err-Fault-clause-ok
returns-in-Err-Fault-clause-ok g c =
    by-some c.empty_shards.result [] (λ items shards. HaveBegun (shown c.args.config.now) items shards.items)
    c.empty_shards.ensures.ok
