use Rattle.std.proofs.Common.{◌≡◌, ◌∙◌, false, refl, sym, true}
use Rattle.roam_reload.specs.Kept.{keeps_sessions, of_peer}
use Rattle.roam_migrate.proofs.sessions.close_if_gone.Goals as goal

pub returns-then-not-peer_keeps_sessions-clause-sessions : goal.returns-then-not-peer_keeps_sessions-clause-sessions
returns-then-not-peer_keeps_sessions-clause-sessions g c =
    let keeps = rw (c.peers.ensures.peers, c.peers-2.ensures.peers) at c.peer_keeps_sessions.ensures in
    let goes : of_peer keeps_sessions c.args.old.now.peers c.args.new.now.peers c.args.peer ≡ false =
    sym keeps ∙ c.if-not-peer_keeps_sessions.true in
    rw goes c.close_peer.ensures.sessions

pub returns-else-not-peer_keeps_sessions-clause-sessions : goal.returns-else-not-peer_keeps_sessions-clause-sessions
returns-else-not-peer_keeps_sessions-clause-sessions g c =
    let keeps = rw (c.peers.ensures.peers, c.peers-2.ensures.peers) at c.peer_keeps_sessions.ensures in
    let stays : of_peer keeps_sessions c.args.old.now.peers c.args.new.now.peers c.args.peer ≡ true =
    sym keeps ∙ c.if-not-peer_keeps_sessions.false in
    rw stays refl
