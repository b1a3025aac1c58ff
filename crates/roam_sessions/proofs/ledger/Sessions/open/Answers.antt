use Rattle.std.proofs.Common.{◌≡◌, false, ap, sym, ◌∙◌, inl, inr}
use Rattle.roam_sessions.specs.Ended.{open_sessions}
use Rattle.roam_sessions.specs.Kept.{kept_session}
use Rattle.roam_sessions.specs.Sessions.{has_session, with_session}
use Rattle.roam_sessions.specs.ShownSessions.{Ledger}
use Rattle.roam_sessions.proofs.SessionLemmas.{not-opened, opened}
use Rattle.roam_sessions.proofs.ledger.Sessions.open.Goals as goal
use Rattle.roam_sessions.proofs.ledger.Sessions.open.Goals.{then-holds-via-then-holds, then-holds-via-else-holds+then-self-eq0}

pub returns-then-holds-clause-sessions : goal.returns-then-holds-clause-sessions
returns-then-holds-clause-sessions g c =
    sym (not-opened c.args.self.now.limit (kept_session c.args.new.session) c.args.self.now.sessions (
    elim c.then-holds.branch [
      | then-holds-via-then-holds w ↦ inl (sym w.if-holds.ensures)
      | then-holds-via-else-holds+then-self-eq0 w ↦ inr
          (sym (ap (λ (l : Ledger). l.limit) c.self.view_is) ∙ w.if-self-eq0.true)
    ]))

-- it wasn't there
pub open-requires-clause-absent : goal.open-requires-clause-absent
open-requires-clause-absent g c =
    let s = kept_session c.args.new.session in
    rw (sym c.deref_mut.ensures.value) at
    (ap (λ (l : Ledger). has_session s l.sessions) c.self.view_is ∙ sym c.if-holds.ensures)

pub invariant_of-self : goal.invariant_of-self
invariant_of-self g c = (c.open.ensures.sound, c.open.ensures.count)

pub returns-clause-sessions : goal.returns-clause-sessions
returns-clause-sessions g c =
    let s = kept_session c.args.new.session in
    let xs = open_sessions c.self.inside.table.value in
    let limit = c.self.inside.limit in
    let absent : has_session s xs ≡ false =
    ap (λ (l : Ledger). has_session s l.sessions) c.self.view_is ∙ sym c.if-holds.ensures in
    (rw c.deref_mut.ensures.value at c.open.ensures.sessions)
    ∙ opened limit s xs absent c.if-self-eq0.false
    ∙ ap (λ (l : Ledger). with_session l.limit s l.sessions) c.self.view_is
