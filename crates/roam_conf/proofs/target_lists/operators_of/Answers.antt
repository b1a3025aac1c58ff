use Rattle.std.proofs.Common.{◌+◌, ◌∙◌, map, drop, ap, Some, arith}
use Rattle.std.specs.List.{position_from}
use Rattle.std.specs.Option.{option_or}
use Rattle.roam_conf.specs.Config.{PeerView}
use Rattle.roam_conf.specs.Index.{owners, owner_of}
use Rattle.roam_conf.specs.Operators.{operator_key, same_operator_if_there}
use Rattle.roam_conf.specs.Parts.{shown_peer}
use Rattle.roam_conf.specs.Targets.{peer_with_operator}
use Rattle.roam_conf.proofs.PeerLemmas.{position_at, position_past}
use Rattle.roam_conf.proofs.TargetLemmas.{noted_peer}
use Rattle.roam_conf.proofs.target_lists.operators_of.Goals as goal

-- one more peer was noted, or another has what it has
pub loop-place-preserved : goal.loop-place-preserved
loop-place-preserved c = λ key.
    let peers = c.args.peers.now in
    let i = c.loop-place.place in
    let peer = c.index-peers-place.result in
    noted_peer (owner_of (owners c.loop-place.index) (operator_key key))
    (owner_of (owners c.note_operator.new.index) (operator_key key))
    (same_operator_if_there (shown_peer peer).operator_name (Some key)) i
    (position_from (λ (x : PeerView). same_operator_if_there x.operator_name (Some key)) (i + 1)
    (map shown_peer (drop (i + 1) peers))) (c.in_ok-note_operator.ensures key)
    ∙ ap (λ o. option_or (owner_of (owners c.loop-place.index) (operator_key key)) o)
    (position_at (λ (x : PeerView). same_operator_if_there x.operator_name (Some key)) peers i peer (omega arith)
    c.index-peers-place.is)
    ∙ c.loop-place.invariant key

-- all peers were noted
pub returns : goal.returns
unfolding peer_with_operator
returns c = λ key.
    let test = λ (x : PeerView). same_operator_if_there x.operator_name (Some key) in
    position_past test c.args.peers.now c.loop-place.place (owner_of (owners c.loop-place.index) (operator_key key))
    (omega arith) ∙ c.loop-place.invariant key
