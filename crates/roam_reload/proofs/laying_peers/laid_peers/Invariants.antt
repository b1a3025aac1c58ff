use Rattle.std.proofs.Common.{◌≡◌, map, take, unwrap_or}
use Rattle.std.specs.List.{find}
use Rattle.roam_conf.specs.Parts.{shown_peer}
use Rattle.roam_reload.specs.Laying.{peers_in, slots_then}
use Rattle.roam_reload.specs.Numbers.{gone_peer, same_peer_name}
use Rattle.roam_reload.proofs.laying_peers.laid_peers.Given as goal

-- so many of the old ones are laid out, and their tables taken
abbrev pub invariant-loop-peer : goal.invariant-loop-peer
invariant-loop-peer l = record {
  laid : map shown_peer l.laid.items
      ≡ map (λ x. unwrap_or (find (same_peer_name x) (map shown_peer l.fn.new.items)) (gone_peer x))
      (take l.peer-index (map shown_peer l.fn.old));
  slots : peers_in l.slots.items
      ≡ slots_then same_peer_name (take l.peer-index (map shown_peer l.fn.old)) (map shown_peer l.fn.new.items);
}
