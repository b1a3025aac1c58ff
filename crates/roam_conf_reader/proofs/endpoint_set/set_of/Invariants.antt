use Rattle.roam_conf_reader.proofs.PairLemmas.{AreApart}
use Rattle.roam_conf_reader.proofs.endpoint_set.set_of.Given as goal

-- the endpoints so far
abbrev pub invariant-loop-endpoint : goal.invariant-loop-endpoint
invariant-loop-endpoint l = AreApart l.fn.endpoints l.endpoint-index l.set.keys
