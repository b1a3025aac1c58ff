use Rattle.std.proofs.Common.{◌≡◌, drop}
use Rattle.roam_conf.specs.Shown.{shown}
use Rattle.roam_core.specs.BrokerView.{states_of}
use Rattle.roam_core.specs.ShardRooms.{only_done_from}
use Rattle.roam_core.proofs.shard_room.has_only_done.Given as goal

-- the books that are left decide
abbrev pub invariant-loop-realm : goal.invariant-loop-realm
invariant-loop-realm g l =
    only_done_from (shown l.config) l.now l.shard l.realm (states_of (drop l.realm l.books))
    ≡ only_done_from (shown l.config) l.now l.shard 0 (states_of l.books)
