use Rattle.std.proofs.Common.{None, ap, ◌∙◌}
use Rattle.roam_sessions.specs.Sessions.{LedgerChange, Nas, Session, changed, closes, closes_all}
use Rattle.roam_sessions.specs.ShownSessions.{shown_change}
use Rattle.roam_sessions.proofs.ledger.Sessions.prepare.Goals as goal
use Rattle.roam_sessions.proofs.ledger.Sessions.prepare.Goals.{in-Closes, in-ClosesAll, in-Nothing}

pub returns-clause-change : goal.returns-clause-change
returns-clause-change g c =
    ap (λ (change : LedgerChange). changed c.args.self.now.limit change c.args.self.now.sessions) (
    elim c.match-said_by.branch [
      | in-Closes w ↦ (
          let says = rw w.in-Closes.is at c.said_by.ensures in
          ap shown_change w.change-is ∙ ap (λ (s : Session). closes s) w.copy_of.ensures ∙ says)
      | in-ClosesAll w ↦ (
          let says = rw w.in-ClosesAll.is at c.said_by.ensures in
          ap shown_change w.change-is
          ∙ ap (λ (n : Nas). closes_all (record { peer = w.in-ClosesAll.peer; nas = n; id = None }))
          w.copy_of-in-ClosesAll.ensures ∙ says)
      | in-Nothing w ↦ (
          let says = rw w.in-Nothing.is at c.said_by.ensures in
          ap shown_change w.change-is ∙ says)
    ])
