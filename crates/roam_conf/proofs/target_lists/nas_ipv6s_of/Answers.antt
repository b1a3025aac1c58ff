use Rattle.std.proofs.Common.{◌+◌, ◌∙◌, map, drop, ap, Some, arith}
use Rattle.std.specs.List.{position_from}
use Rattle.std.specs.Option.{option_or}
use Rattle.roam_conf.specs.Config.{PeerView}
use Rattle.roam_conf.specs.Duplicates.{same_if_there}
use Rattle.roam_conf.specs.Index.{owners, owner_of}
use Rattle.roam_conf.specs.Parts.{shown_peer}
use Rattle.roam_conf.specs.Targets.{peer_with_nas_ipv6}
use Rattle.roam_conf.proofs.PeerLemmas.{position_at, position_past}
use Rattle.roam_conf.proofs.TargetLemmas.{noted_peer}
use Rattle.roam_conf.proofs.target_lists.nas_ipv6s_of.Goals as goal

-- one more peer was noted, or another has what it has
pub loop-place-preserved : goal.loop-place-preserved
loop-place-preserved c = λ key.
    let peers = c.args.peers.now in
    let i = c.loop-place.place in
    let peer = c.index-peers-place.result in
    noted_peer (owner_of (owners c.loop-place.index) key) (owner_of (owners c.note_nas_ipv6.new.index) key)
    (same_if_there (shown_peer peer).nas_ipv6 (Some key)) i
    (position_from (λ (x : PeerView). same_if_there x.nas_ipv6 (Some key)) (i + 1)
    (map shown_peer (drop (i + 1) peers)))
    (c.in_ok-note_nas_ipv6.ensures key)
    ∙ ap (λ o. option_or (owner_of (owners c.loop-place.index) key) o)
    (position_at (λ (x : PeerView). same_if_there x.nas_ipv6 (Some key)) peers i peer (omega arith)
    c.index-peers-place.is)
    ∙ c.loop-place.invariant key

-- all peers were noted
pub returns : goal.returns
unfolding peer_with_nas_ipv6
returns c = λ key.
    position_past (λ (x : PeerView). same_if_there x.nas_ipv6 (Some key)) c.args.peers.now c.loop-place.place
    (owner_of (owners c.loop-place.index) key) (omega arith) ∙ c.loop-place.invariant key
