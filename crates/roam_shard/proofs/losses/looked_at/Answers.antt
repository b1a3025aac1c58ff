-- The shard is resumed, and paused again as it was.
use Rattle.roam_conf.specs.Shown.{shown}
use Rattle.roam_shard.proofs.LosingLemmas.{paused_again}
use Rattle.roam_shard.proofs.losses.looked_at.Goals as goal

pub returns-clause-still : goal.returns-clause-still
returns-clause-still g c =
    paused_again (shown c.args.old.now) c.args.shard c.pause.result c.resume-shard.result
    c.resume-shard.ensures.opening c.resume-shard.ensures.states c.pause.ensures.stands c.pause.ensures.states
    c.pause.ensures.shard
