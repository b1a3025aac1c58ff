use Rattle.std.proofs.Common.{◌≡◌, ℕ, false, Option, ap, sym, ◌∙◌, subst, arith}
use Rattle.roam_sessions.specs.Ended.{open_at, open_sessions}
use Rattle.roam_sessions.specs.Kept.{shown_session}
use Rattle.roam_sessions.specs.Private.Tickets.{IsTicketOf}
use Rattle.roam_sessions.specs.Sessions.{has_session, without_session}
use Rattle.roam_sessions.specs.ShownSessions.{Ledger}
use Rattle.roam_sessions.specs.Stands.{session_at}
use Rattle.roam_sessions.proofs.NeighbourLemmas.{held-some}
use Rattle.roam_sessions.proofs.OpenLemmas.{open-there}
use Rattle.roam_sessions.proofs.MarkLemmas.{table-tickets}
use Rattle.roam_sessions.proofs.SessionLemmas.{without-absent}
use Rattle.roam_sessions.proofs.SoundLemmas.{closed, there}
use Rattle.roam_sessions.proofs.ledger.Sessions.close.Goals as goal

pub take-requires-clause-held : goal.take-requires-clause-held
take-requires-clause-held g c =
    let table = c.self.inside.table.value in
    let s = shown_session c.args.session in
    let found = rw c.deref.ensures at (c.find.ensures (rw (sym c.deref.ensures) at c.self.invariant.0)) in
    let at = subst (λ (o : Option ℕ). IsTicketOf s (open_at table) o) c.in-Some.is found in
    rw (sym c.deref_mut.ensures.value) at
    (held-some (session_at table.chain c.in-Some.ticket) s
    (open-there table.ended (session_at table.chain) c.in-Some.ticket s at))

pub invariant_of-self : goal.invariant_of-self
invariant_of-self g c = (
  c.take.ensures.sound,
  let count = rw c.deref_mut.ensures.value at c.take.ensures.count in omega (arith, count, c.self.invariant.1),
)

pub returns-in-Some-clause-sessions : goal.returns-in-Some-clause-sessions
returns-in-Some-clause-sessions g c =
    let s = shown_session c.args.session in
    let table = c.self.inside.table.value in
    let found = rw c.deref.ensures at (c.find.ensures (rw (sym c.deref.ensures) at c.self.invariant.0)) in
    let at = subst (λ (o : Option ℕ). IsTicketOf s (open_at table) o) c.in-Some.is found in
    closed (open_at table) table.chain.next (table-tickets table c.self.invariant.0) (open_at c.take.new.self)
    c.in-Some.ticket s at (rw c.deref_mut.ensures.value at c.take.ensures.sessions)
    ∙ ap (λ (l : Ledger). without_session s l.sessions) c.self.view_is

pub returns-in_default-clause-sessions : goal.returns-in_default-clause-sessions
returns-in_default-clause-sessions g c =
    let s = shown_session c.args.session in
    let table = c.self.inside.table.value in
    let found = there (open_at table) table.chain.next (table-tickets table c.self.invariant.0) s c.find.result
    (rw c.deref.ensures at (c.find.ensures (rw (sym c.deref.ensures) at c.self.invariant.0))) in
    let absent : has_session s (open_sessions table) ≡ false = rw c.in_default.is at (sym found) in
    sym (without-absent s c.args.self.now.sessions
    (sym (ap (λ (l : Ledger). has_session s l.sessions) c.self.view_is) ∙ absent))
