use Rattle.std.proofs.Common.{Option, ℕ, sym, ap, ◌∙◌}
use Rattle.std.specs.Prelude.{is_some, option_and_then}
use Rattle.roam_sessions.specs.Kept.{shown_session}
use Rattle.roam_sessions.specs.Private.Buckets.{same_at}
use Rattle.roam_sessions.specs.Stands.{session_at}
use Rattle.roam_sessions.proofs.BucketLemmas.{session-gone, session-there}
use Rattle.roam_sessions.proofs.chain.Chain.is_at.Goals as goal

pub returns-in_default : goal.returns-in_default
returns-in_default g c =
    sym (ap (λ (o : Option ℕ). is_some (option_and_then
    (same_at (shown_session c.args.session) (session_at c.args.self.now)) o)) c.in_default.is)

pub returns-in-None : goal.returns-in-None
returns-in-None g c =
    session-gone (shown_session c.args.session) (session_at c.args.self.now) c.args.ticket c.in-Some.ticket c.in-Some.is
    (sym (rw c.in-None.is at c.session.ensures))

pub returns-in-Some-session : goal.returns-in-Some-session
returns-in-Some-session g c =
    c.is_same.ensures
    ∙ session-there (shown_session c.args.session) (session_at c.args.self.now) c.args.ticket c.in-Some.ticket
    (shown_session c.in-Some-session.other) c.in-Some.is (sym (rw c.in-Some-session.is at c.session.ensures))
