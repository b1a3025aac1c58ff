use Rattle.roam_conf.specs.Shown.{shown}
use Rattle.roam_shard.specs.NumbersView.{AreOpened}
use Rattle.roam_shard.proofs.realm_numbers.opened_numbers.Given as goal

abbrev pub invariant-loop-realm : goal.invariant-loop-realm
invariant-loop-realm g l = AreOpened (shown l.config) l.shard l.starts l.realm l.numbers.items
