-- It goes on from what the seat has seen.
use Rattle.std.proofs.Common.{◌≡◌, true}
use Rattle.roam_hub.proofs.locked_trace.LockedTrace.check.Goals as goal

pub returns-clause-shard : goal.returns-clause-shard
returns-clause-shard g c = (let yes : c.goes_on.result ≡ true = cc in c.goes_on.ensures.shard yes)

pub returns-clause-there : goal.returns-clause-there
returns-clause-there g c = (let yes : c.goes_on.result ≡ true = cc in c.goes_on.ensures.there yes)

pub returns-clause-begins : goal.returns-clause-begins
returns-clause-begins g c = (let yes : c.goes_on.result ≡ true = cc in c.goes_on.ensures.begins yes)
