use Rattle.std.proofs.Common.{◌-◌, ◌≤◌, length, drop, ap, ◌∙◌, subst, arith}
use Rattle.roam_sessions.specs.ShownSessions.{Ledger}
use Rattle.roam_sessions.proofs.ledger.Sessions.limit_to.Goals as goal

pub invariant_of-self : goal.invariant_of-self
invariant_of-self g c = (c.keep_newest.ensures.sound, c.keep_newest.ensures.count)

pub returns-clause-sessions : goal.returns-clause-sessions
returns-clause-sessions g c =
    (rw c.deref_mut.ensures.value at c.keep_newest.ensures.sessions)
    ∙ ap (λ (l : Ledger). drop (length l.sessions - c.args.limit) l.sessions) c.self.view_is

pub returns-clause-few : goal.returns-clause-few
returns-clause-few g c =
    subst (λ (l : Ledger). length l.sessions ≤ l.limit) c.self.view_is
    (omega (arith, c.self.invariant.0.left, c.self.invariant.1))
