use Rattle.roam_sessions.proofs.SessionLemmas.{closed-is-gone, others-stay}
use Rattle.roam_sessions.proofs.session_laws.closed_sessions.Goals as goal

pub returns-clause-gone : goal.returns-clause-gone
returns-clause-gone c = λ limit s sessions. closed-is-gone s sessions

pub returns-clause-others : goal.returns-clause-others
returns-clause-others c = λ limit s other sessions apart. others-stay s other sessions apart
