use Rattle.std.proofs.Common.{◌≡◌, ℕ, List, map, drop, Some}
use Rattle.std.specs.List.{position_from}
use Rattle.std.specs.Option.{option_or}
use Rattle.roam_conf.specs.Config.{PeerView}
use Rattle.roam_conf.specs.Duplicates.{same_if_there}
use Rattle.roam_conf.specs.Index.{owners, owner_of}
use Rattle.roam_conf.specs.Lookup.{first_place}
use Rattle.roam_conf.specs.Parts.{shown_peer}
use Rattle.roam_conf.proofs.target_lists.nas_ipv6s_of.Given as goal

-- the peer of an address is the one that was noted, or else one of those that are left
abbrev pub invariant-loop-place : goal.invariant-loop-place
invariant-loop-place l =
    (ip : List ℕ) → option_or (owner_of (owners l.index) ip)
    (position_from (λ (peer : PeerView). same_if_there peer.nas_ipv6 (Some ip)) l.place
    (map shown_peer (drop l.place l.peers)))
    ≡ first_place (λ (peer : PeerView). same_if_there peer.nas_ipv6 (Some ip)) (map shown_peer l.fn.peers)
