use Rattle.std.proofs.Common.{ap, sym, ◌∙◌}
use Rattle.roam_sessions.specs.Kept.{kept_session}
use Rattle.roam_sessions.specs.Sessions.{has_session}
use Rattle.roam_sessions.specs.ShownSessions.{Ledger}
use Rattle.roam_sessions.proofs.ledger.Sessions.holds.Goals as goal

pub returns : goal.returns
returns g c =
    (rw c.deref.ensures at (c.holds.ensures (rw (sym c.deref.ensures) at c.self.invariant.0)))
    ∙ ap (λ (l : Ledger). has_session (kept_session c.args.new.now.session) l.sessions) c.self.view_is
