use Rattle.roam_sessions.proofs.SessionLemmas.{more-makes-way}
use Rattle.roam_sessions.proofs.session_laws.peers_have_shares.Goals as goal

pub returns : goal.returns
returns c = more-makes-way
