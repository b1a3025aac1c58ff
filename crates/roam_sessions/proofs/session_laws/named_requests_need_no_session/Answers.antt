use Rattle.roam_sessions.specs.Causes.{cause, names_sessions}
use Rattle.roam_sessions.specs.Target.{target_in}
use Rattle.roam_sessions.proofs.CauseLemmas.{named-at-target}
use Rattle.roam_sessions.proofs.session_laws.named_requests_need_no_session.Goals as goal

pub returns : goal.returns
unfolding cause
returns c = λ entry peers realm named attributes name sessions others no has.
    named-at-target (names_sessions entry) realm named attributes name sessions others
    (target_in entry peers attributes) no has
