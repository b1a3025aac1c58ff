use Rattle.std.proofs.Common.{◌≡◌, take}
use Rattle.roam_conf.specs.Shown.{shown}
use Rattle.roam_sessions.specs.ShownLedgers.{shown_items}
use Rattle.roam_shard.specs.Pausing.{StandsUnder, states_under}
use Rattle.roam_shard.proofs.ItemLemmas.{AreTakenUp}
use Rattle.roam_shard.proofs.paused.Paused.restore.Given as goal

-- the items so far were taken up, and it is known whose sessions come now
abbrev pub invariant-loop-item : goal.invariant-loop-item
invariant-loop-item g l = record {
  stands : StandsUnder (shown l.config) l.self;
  shard : l.self.shard ≡ l.fn.self.shard;
  taken : AreTakenUp (shown l.config) l.fn.self.shard (shown_items (take l.item-index l.items)) l.own
      (states_under (shown l.config) l.fn.self) (states_under (shown l.config) l.self);
}
