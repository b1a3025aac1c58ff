use Rattle.roam_conf.specs.Shown.{shown}
use Rattle.roam_sessions.specs.ShownLedgers.{shown_items}
use Rattle.roam_server.proofs.BeginLemmas.{HaveBegunSoFar}
use Rattle.roam_server.proofs.beginning.first_shards.Given as goal

-- so many shards began
abbrev pub invariant-loop-shard : goal.invariant-loop-shard
invariant-loop-shard l = HaveBegunSoFar (shown l.config) (shown_items l.items) l.shards.items l.shard
