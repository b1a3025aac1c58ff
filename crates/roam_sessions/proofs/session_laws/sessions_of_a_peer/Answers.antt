use Rattle.roam_sessions.proofs.SessionLemmas.{agreeing-are-gone, disagreeing-stay, others-of-peers-stay}
use Rattle.roam_sessions.proofs.session_laws.sessions_of_a_peer.Goals as goal

pub returns-clause-gone : goal.returns-clause-gone
returns-clause-gone c = λ limit asked s sessions agree. agreeing-are-gone asked s sessions agree

pub returns-clause-stay : goal.returns-clause-stay
returns-clause-stay c = λ limit asked s sessions disagree. disagreeing-stay asked s sessions disagree

pub returns-clause-others : goal.returns-clause-others
returns-clause-others c = λ limit asked s sessions apart. others-of-peers-stay asked s sessions apart
