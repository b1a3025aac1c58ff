-- Where no numbers stand a realm begins at 0.
use Rattle.roam_shard.proofs.FollowLemmas.{begin_nowhere}
use Rattle.roam_shard.proofs.realm_numbers.begin_at.Goals as goal

pub returns-in-None : goal.returns-in-None
returns-in-None g c = begin_nowhere c.args.numbers.now c.args.realm c.in-None.ensures.none
