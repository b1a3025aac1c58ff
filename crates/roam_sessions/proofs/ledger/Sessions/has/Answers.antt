use Rattle.std.proofs.Common.{ap, sym, ◌∙◌, subst, arith}
use Rattle.roam_sessions.specs.Ended.{open_at}
use Rattle.roam_sessions.specs.Kept.{shown_session}
use Rattle.roam_sessions.specs.Sessions.{IsLedger, has_session}
use Rattle.roam_sessions.specs.ShownSessions.{Ledger}
use Rattle.roam_sessions.proofs.MarkLemmas.{table-tickets}
use Rattle.roam_sessions.proofs.SoundLemmas.{is-ledger, there}
use Rattle.roam_sessions.proofs.ledger.Sessions.has.Goals as goal

pub returns-clause-found : goal.returns-clause-found
returns-clause-found g c =
    let sound = c.self.invariant.0 in
    let table = c.self.inside.table.value in
    let s = shown_session c.args.session in
    c.is_some.ensures
    ∙ there (open_at table) table.chain.next (table-tickets table sound) s c.find.result
    (rw c.deref.ensures at (c.find.ensures (rw (sym c.deref.ensures) at sound)))
    ∙ ap (λ (l : Ledger). has_session s l.sessions) c.self.view_is

pub returns-clause-ledger : goal.returns-clause-ledger
returns-clause-ledger g c =
    let sound = c.self.invariant.0 in
    let table = c.self.inside.table.value in
    subst (λ (l : Ledger). IsLedger l.limit l.sessions) c.self.view_is
    (is-ledger (open_at table) table.chain.next (table-tickets table sound) c.self.inside.limit
    (omega (arith, sound.left, c.self.invariant.1)))
