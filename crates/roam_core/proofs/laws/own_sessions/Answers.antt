use Rattle.roam_core.proofs.OwnSessionLemmas.{admitted_is_of_own_session, admitted_is_of_own_session_in, each_sent_is_of_own_session, sent_is_of_own_session}
use Rattle.roam_core.proofs.laws.own_sessions.Goals as goal

pub returns-clause-admitted : goal.returns-clause-admitted
returns-clause-admitted c = admitted_is_of_own_session

pub returns-clause-life : goal.returns-clause-life
returns-clause-life c = admitted_is_of_own_session_in

pub returns-clause-sent : goal.returns-clause-sent
returns-clause-sent c = sent_is_of_own_session

pub returns-clause-each : goal.returns-clause-each
returns-clause-each c = each_sent_is_of_own_session
