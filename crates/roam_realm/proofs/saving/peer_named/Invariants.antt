use Rattle.std.proofs.Common.{◌≡◌, ◌&&◌, not, map, drop}
use Rattle.std.specs.List.{position_from}
use Rattle.std.specs.Str.{bytes_eq}
use Rattle.roam_conf.specs.Config.{PeerView}
use Rattle.roam_conf.specs.Lookup.{first_place}
use Rattle.roam_conf.specs.Parts.{shown_peer}
use Rattle.roam_realm.proofs.saving.peer_named.Given as goal

-- the peer of the name is one of those that are left
abbrev pub invariant-loop-index : goal.invariant-loop-index
invariant-loop-index l =
    position_from (λ (p : PeerView). not p.gone && bytes_eq p.name l.name) l.index
    (map shown_peer (drop l.index l.peers))
    ≡ first_place (λ (p : PeerView). not p.gone && bytes_eq p.name l.fn.name) (map shown_peer l.fn.peers)
