use Rattle.std.proofs.Common.{◌≡◌, ◌&&◌, not, ℕ, List, map, drop}
use Rattle.std.specs.List.{position_from}
use Rattle.std.specs.Option.{option_or}
use Rattle.std.specs.Str.{bytes_eq}
use Rattle.roam_conf.specs.Config.{PeerView}
use Rattle.roam_conf.specs.Index.{owners, owner_of}
use Rattle.roam_conf.specs.Lookup.{first_place}
use Rattle.roam_conf.specs.Parts.{shown_peer}
use Rattle.roam_conf.proofs.peer_names.names_of.Given as goal

-- the peer of a name is the one that was noted, or else one of those that are left
abbrev pub invariant-loop-place : goal.invariant-loop-place
invariant-loop-place l =
    (name : List ℕ) → option_or (owner_of (owners l.index) name)
    (position_from (λ (peer : PeerView). not peer.gone && bytes_eq peer.name name) l.place
    (map shown_peer (drop l.place l.peers)))
    ≡ first_place (λ (peer : PeerView). not peer.gone && bytes_eq peer.name name) (map shown_peer l.fn.peers)
