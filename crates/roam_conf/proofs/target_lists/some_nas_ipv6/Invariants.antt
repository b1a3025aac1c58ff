use Rattle.std.proofs.Common.{◌≡◌, is_some, map, drop}
use Rattle.std.specs.List.{list_any}
use Rattle.roam_conf.specs.Config.{PeerView}
use Rattle.roam_conf.specs.Parts.{shown_peer}
use Rattle.roam_conf.proofs.target_lists.some_nas_ipv6.Given as goal

abbrev pub invariant-loop-peer : goal.invariant-loop-peer
invariant-loop-peer l =
    list_any (λ (peer : PeerView). is_some peer.nas_ipv6) (map shown_peer (drop l.peer-index l.peers))
    ≡ list_any (λ (peer : PeerView). is_some peer.nas_ipv6) (map shown_peer l.fn.peers)
