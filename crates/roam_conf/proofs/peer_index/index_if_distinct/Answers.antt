use Rattle.std.proofs.Common.{◌∙◌}
use Rattle.roam_conf.proofs.PrefixLemmas.{index_or_none}
use Rattle.roam_conf.proofs.peer_index.index_if_distinct.Goals as goal

-- what the index of the prefixes says of them is said of the peers
pub returns : goal.returns
returns c =
    index_or_none c.args.peers.now c.as_slice.result.now c.new.result
    (c.as_slice.ensures.value ∙ c.in_ok-prefixes.ensures) c.new.ensures
