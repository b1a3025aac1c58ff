use Rattle.std.proofs.Common.{None, ap, ◌∙◌}
use Rattle.roam_sessions.specs.Sessions.{Nas, without_agreeing}
use Rattle.roam_sessions.proofs.WholeLemmas.{others-left}
use Rattle.roam_sessions.proofs.ledger.Sessions.close_peer.Goals as goal

pub returns-clause-sessions : goal.returns-clause-sessions
returns-clause-sessions g c =
    c.close_all.ensures.sessions
    ∙ ap (λ (n : Nas). without_agreeing (record { peer = c.args.peer; nas = n; id = None }) c.args.self.now.sessions)
    c.no_nas.ensures
    ∙ others-left c.args.peer c.args.self.now.sessions
