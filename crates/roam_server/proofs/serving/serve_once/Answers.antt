-- The shards are served on: by the hub's histories, or nothing was done over them.
use Rattle.std.proofs.Common.{◌≡◌, subst, sym}
use Rattle.roam_conf.specs.Shown.{shown}
use Rattle.roam_hub.specs.Pausing.{ArePaused}
use Rattle.roam_epoch.specs.Closed.{IsUnserved}
use Rattle.roam_server.specs.Served.{IsServedOn}
use Rattle.roam_server.proofs.ServedLemmas.{on-hub}
use Rattle.roam_server.proofs.serving.serve_once.Goals as goal

pub returns-in-Ok-clause-ok : goal.returns-in-Ok-clause-ok
returns-in-Ok-clause-ok g c = record {
  paused = c.in-Ok.ensures.ends.1.paused;
  goes_on = on-hub (shown c.args.configured.now.config) c.args.shards.items _ c.in-Ok.ensures.ends.0
      c.requires.paused c.in-Ok.ensures.ends.1;
  may = c.in-Ok.ensures.may;
}

pub returns-in-Err-Closed-clause-ok : goal.returns-in-Err-Closed-clause-ok
returns-in-Err-Closed-clause-ok g c =
    let config = shown c.args.configured.now.config in
    let same : c.in-Err-Closed.shards.items ≡ c.args.shards.items =
    subst (IsUnserved c.args.shards.items) c.in-Err-Closed.field-0-is c.in-Err-Closed.ensures.err in
    subst (λ shards. IsServedOn config shards c.not_started.result) same
    (c.not_started.ensures config (subst (ArePaused config) (sym same) c.requires.paused))
