use Rattle.roam_forward.proofs.BufferLemmas.{rewritten_within}
use Rattle.roam_forward.proofs.forwarding.rewrite.Goals as goal

-- the request ends within the slice
pub front_packet-requires-clause-inside : goal.front_packet-requires-clause-inside
front_packet-requires-clause-inside c = rewritten_within c.args.len c.args.octets.now c.requires.rewritable
