-- One shard begins after the other.
use Rattle.std.proofs.Common.{arith}
use Rattle.roam_conf.specs.Shown.{shown}
use Rattle.roam_sessions.specs.ShownLedgers.{shown_items}
use Rattle.roam_server.proofs.BeginLemmas.{all-begun, none-begun, one-more-begun}
use Rattle.roam_server.proofs.beginning.first_shards.Goals as goal

pub loop-shard-init : goal.loop-shard-init
loop-shard-init c =
    rw c.in_ok-shards.ensures.items (none-begun (shown c.args.config.now) (shown_items c.args.items.now))

pub loop-shard-preserved : goal.loop-shard-preserved
loop-shard-preserved c =
    rw c.in_ok-push.ensures.items
    (one-more-begun (shown c.args.config.now) (shown_items c.args.items.now) c.loop-shard.shards.items
    c.loop-shard.shard _ c.loop-shard.invariant c.in_ok-begun.ensures.ok)

pub returns-clause-ok : goal.returns-clause-ok
returns-clause-ok c =
    all-begun (shown c.args.config.now) (shown_items c.args.items.now) c.loop-shard.shards.items c.loop-shard.shard
    c.loop-shard.invariant (omega (arith, c.loop-shard-test.false, c.loop-shard.auto.shard-end))
