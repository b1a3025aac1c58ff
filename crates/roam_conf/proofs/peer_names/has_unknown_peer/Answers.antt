use Rattle.std.proofs.Common.{◌∙◌, map}
use Rattle.roam_conf.specs.Index.{owners}
use Rattle.roam_conf.specs.Parts.{shown_peer, shown_realm}
use Rattle.roam_conf.proofs.PeerLemmas.{unknown_by_index}
use Rattle.roam_conf.proofs.peer_names.has_unknown_peer.Goals as goal

-- the names that aren't in the index are those of no peer
pub returns : goal.returns
returns c =
    c.some_states_other.ensures ∙ unknown_by_index (map shown_peer c.args.peers.now) (owners c.in_ok-index.index)
    c.in_ok-index.ensures (map shown_realm c.args.realms.now)
