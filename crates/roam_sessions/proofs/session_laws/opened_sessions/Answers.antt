use Rattle.roam_sessions.proofs.SessionLemmas.{opened-is-there, opened-twice}
use Rattle.roam_sessions.proofs.session_laws.opened_sessions.Goals as goal

pub returns-clause-is_there : goal.returns-clause-is_there
returns-clause-is_there c = opened-is-there

pub returns-clause-once : goal.returns-clause-once
returns-clause-once c = opened-twice
