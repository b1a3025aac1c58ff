use Rattle.std.proofs.Common.{◌+◌, ◌∙◌, map, drop, ap, arith}
use Rattle.std.specs.List.{position_from}
use Rattle.std.specs.Option.{option_or}
use Rattle.roam_conf.specs.Parts.{shown_peer}
use Rattle.roam_conf.specs.TargetIndex.{nas_owner}
use Rattle.roam_conf.specs.Targets.{has_nas, peer_with_nas}
use Rattle.roam_conf.proofs.PeerLemmas.{position_at, position_past}
use Rattle.roam_conf.proofs.TargetLemmas.{noted_peer}
use Rattle.roam_conf.proofs.nas_index.nas_of.Goals as goal

-- one more peer was noted for its patterns, or another has them
pub loop-place-preserved : goal.loop-place-preserved
loop-place-preserved c = λ p.
    let peers = c.args.peers.now in
    let i = c.loop-place.place in
    let peer = c.index-peers-place.result in
    noted_peer (nas_owner c.loop-place.index p) (nas_owner c.note_peer.new.index p) (has_nas p (shown_peer peer)) i
    (position_from (has_nas p) (i + 1) (map shown_peer (drop (i + 1) peers))) (c.in_ok-note_peer.ensures p)
    ∙ ap (λ o. option_or (nas_owner c.loop-place.index p) o)
    (position_at (has_nas p) peers i peer (omega arith) c.index-peers-place.is)
    ∙ c.loop-place.invariant p

-- all peers were noted
pub returns : goal.returns
unfolding peer_with_nas
returns c = λ p.
    position_past (has_nas p) c.args.peers.now c.loop-place.place (nas_owner c.loop-place.index p) (omega arith)
    ∙ c.loop-place.invariant p
