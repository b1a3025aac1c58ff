use Rattle.roam_conf.specs.Shown.{shown}
use Rattle.roam_core.proofs.ShardLemmas.{AreGathered}
use Rattle.roam_core.proofs.shard_room.room_of_shard.Given as goal

abbrev pub invariant-loop-realm : goal.invariant-loop-realm
invariant-loop-realm g l =
    AreGathered (shown l.config) l.now l.shard l.realm l.books l.rooms.items l.most
