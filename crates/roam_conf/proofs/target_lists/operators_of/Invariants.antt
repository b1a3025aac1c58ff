use Rattle.std.proofs.Common.{◌≡◌, ℕ, List, map, drop, Some}
use Rattle.std.specs.List.{position_from}
use Rattle.std.specs.Option.{option_or}
use Rattle.roam_conf.specs.Config.{PeerView}
use Rattle.roam_conf.specs.Index.{owners, owner_of}
use Rattle.roam_conf.specs.Lookup.{first_place}
use Rattle.roam_conf.specs.Operators.{operator_key, same_operator_if_there}
use Rattle.roam_conf.specs.Parts.{shown_peer}
use Rattle.roam_conf.proofs.target_lists.operators_of.Given as goal

-- the peer of a name is the one that was noted, or else one of those that are left
abbrev pub invariant-loop-place : goal.invariant-loop-place
invariant-loop-place l =
    (name : List ℕ) → option_or (owner_of (owners l.index) (operator_key name))
    (position_from (λ (peer : PeerView). same_operator_if_there peer.operator_name (Some name)) l.place
    (map shown_peer (drop l.place l.peers)))
    ≡ first_place (λ (peer : PeerView). same_operator_if_there peer.operator_name (Some name))
    (map shown_peer l.fn.peers)
