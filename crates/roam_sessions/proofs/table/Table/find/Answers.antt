use Rattle.std.proofs.Common.{ℕ, Option, sym, subst}
use Rattle.roam_sessions.specs.Kept.{shown_session}
use Rattle.roam_sessions.specs.Private.Tickets.{IsTicketOf}
use Rattle.roam_sessions.specs.Stands.{session_at}
use Rattle.roam_sessions.proofs.OpenLemmas.{found-open, not-found, open-where}
use Rattle.roam_sessions.proofs.table.Table.find.Goals as goal

pub returns-in_default : goal.returns-in_default
returns-in_default g c = λ sound.
    let s = shown_session c.args.session in
    let F = session_at c.args.self.now.chain in
    not-found c.args.self.now.ended F s
    (subst (λ (o : Option ℕ). IsTicketOf s F o) c.in_default.is (c.find.ensures sound.chain))

pub returns-then-ends : goal.returns-then-ends
returns-then-ends g c = λ sound.
    let s = shown_session c.args.session in
    let F = session_at c.args.self.now.chain in
    let at = subst (λ (o : Option ℕ). IsTicketOf s F o) c.in-Some.is (c.find.ensures sound.chain) in
    found-open c.args.self.now.ended F c.args.self.now.chain.next sound.chain.tickets s c.in-Some.ticket at
    (sym c.if-ends.ensures)

pub returns : goal.returns
returns g c = λ sound.
    let s = shown_session c.args.session in
    let F = session_at c.args.self.now.chain in
    let at = subst (λ (o : Option ℕ). IsTicketOf s F o) c.in-Some.is (c.find.ensures sound.chain) in
    open-where c.args.self.now.ended F c.in-Some.ticket s at (sym c.if-ends.ensures)
