-- The shards of a paused hub follow another configuration (ours): the words of `roam_shard`.
pub use Rattle.roam_shard.specs.Following.{HaveFollowed, StandAsBefore}
