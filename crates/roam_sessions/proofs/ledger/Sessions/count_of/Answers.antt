use Rattle.std.proofs.Common.{ap, sym, ◌∙◌}
use Rattle.roam_sessions.specs.Sessions.{count_of_peer}
use Rattle.roam_sessions.specs.ShownSessions.{Ledger}
use Rattle.roam_sessions.proofs.ledger.Sessions.count_of.Goals as goal

pub returns : goal.returns
returns g c =
    (rw c.deref.ensures at (c.count_of_peer.ensures (rw (sym c.deref.ensures) at c.self.invariant.0)))
    ∙ ap (λ (l : Ledger). count_of_peer c.args.peer l.sessions) c.self.view_is
