use Rattle.std.specs.Vec.Iter.{into_iter_items, into_iter_len}
use Rattle.std.proofs.Common.{◌≡◌, ◌++◌, length, map}
use Rattle.roam_conf.specs.Parts.{shown_peer}
use Rattle.roam_reload.specs.Laying.{all_in, peers_in}
use Rattle.roam_reload.proofs.laying_peers.slots_of.Given as goal

-- what has its slot, and what is left
abbrev pub invariant-loop-peer : goal.invariant-loop-peer
invariant-loop-peer l = record {
  slots : peers_in l.slots.items ++ all_in (map shown_peer (into_iter_items l.peer-iterator))
      ≡ all_in (map shown_peer l.fn.peers.items);
  left : into_iter_len l.peer-iterator ≡ length (into_iter_items l.peer-iterator);
}
