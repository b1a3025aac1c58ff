use Rattle.roam_address.proofs.NotedLemmas.{IsNoted}
use Rattle.roam_address.proofs.prefix_index.PrefixIndex.new.Given as goal

-- the prefixes so far
abbrev pub invariant-loop-prefix : goal.invariant-loop-prefix
invariant-loop-prefix g l = IsNoted l.fn.prefixes l.prefix-index l.keys.keys l.lengths
