use Rattle.std.proofs.Common.{refl}
use Rattle.roam_conf.specs.Shown.{shown}
use Rattle.roam_shard.proofs.OpeningLemmas.{none_opened, one_more_opened}
use Rattle.roam_shard.proofs.realm_numbers.opened_numbers.Goals as goal

pub loop-realm-init : goal.loop-realm-init
loop-realm-init g c =
    rw c.in_ok-numbers.ensures.items
    (none_opened (shown c.args.config.now) c.args.shard c.args.starts.now)

pub loop-realm-preserved : goal.loop-realm-preserved
loop-realm-preserved g c =
    rw c.in_ok-push.ensures.items
    (one_more_opened (shown c.args.config.now) c.args.shard c.args.starts.now c.loop-realm.realm
    c.loop-realm.numbers.items _ _
    c.loop-realm.invariant refl c.in_ok-opened_at.ensures)
