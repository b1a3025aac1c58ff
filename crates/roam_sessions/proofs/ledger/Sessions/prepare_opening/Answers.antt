use Rattle.std.proofs.Common.{◌≡◌, Result, Ok, Err, ap, ◌∙◌}
use Rattle.std.specs.Prelude.{OnErr}
use Rattle.roam_sessions.specs.Kept.{shown_session}
use Rattle.roam_sessions.specs.ShownSessions.{Ledger}
use Rattle.roam_sessions.proofs.SessionLemmas.{opening-changes}
use Rattle.roam_sessions.proofs.ledger.Sessions.prepare_opening.Goals as goal

-- what wants memory changes the sessions
pub returns-in_err-new-clause-idle : goal.returns-in_err-new-clause-idle
returns-in_err-new-clause-idle g c = λ same.
    absurd (opening-changes c.args.self.now.limit (shown_session c.args.session)
    c.args.self.now.sessions c.if-has.ensures.found
    (λ none. c.if-self-eq0.false (ap (λ (l : Ledger). l.limit) c.self.view_is ∙ none)) same)

pub returns-in_err-reserve-clause-idle : goal.returns-in_err-reserve-clause-idle
returns-in_err-reserve-clause-idle g c = λ same.
    absurd (opening-changes c.args.self.now.limit (shown_session c.args.session)
    c.args.self.now.sessions c.if-has.ensures.found
    (λ none. c.if-self-eq0.false (ap (λ (l : Ledger). l.limit) c.self.view_is ∙ none)) same)

-- no room was made: the ledger is as it was
ledger-is : (a b : Ledger) → a.limit ≡ b.limit → a.sessions ≡ b.sessions → a.spare ≡ b.spare → a ≡ b
ledger-is a b limit sessions spare = λ j. record { limit = limit j; sessions = sessions j; spare = spare j }

on-err : {X E P : Type 0} (r : Result X E) → P → OnErr r P
on-err (Ok x) p = tt
on-err (Err e) p = p

pub returns-in_err-reserve-clause-err : goal.returns-in_err-reserve-clause-err
returns-in_err-reserve-clause-err g c =
    on-err c.from_residual-in_err-reserve.result
    (ledger-is _ c.args.self.now (ap (λ (l : Ledger). l.limit) c.self.view_is)
    ((rw c.deref_mut.ensures.value at c.reserve.ensures.sessions) ∙ ap (λ (l : Ledger). l.sessions) c.self.view_is)
    ((rw c.deref_mut.ensures.value at c.in_err-reserve.ensures.err) ∙ ap (λ (l : Ledger). l.spare) c.self.view_is))
