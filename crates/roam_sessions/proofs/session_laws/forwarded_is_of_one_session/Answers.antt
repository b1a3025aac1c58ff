use Rattle.roam_sessions.proofs.OneSessionLemmas.{forwarded_is_of_one_session}
use Rattle.roam_sessions.proofs.session_laws.forwarded_is_of_one_session.Goals as goal

pub returns : goal.returns
returns c = forwarded_is_of_one_session
