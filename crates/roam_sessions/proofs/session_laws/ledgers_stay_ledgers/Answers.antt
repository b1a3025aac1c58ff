use Rattle.roam_sessions.specs.Sessions.{change_by_request}
use Rattle.roam_sessions.proofs.SessionLemmas.{ledger-changed, limit-of-none}
use Rattle.roam_sessions.proofs.session_laws.ledgers_stay_ledgers.Goals as goal

pub returns-clause-kept : goal.returns-clause-kept
returns-clause-kept c = λ limit own peer attributes sessions ledger.
    ledger-changed limit (change_by_request own peer attributes) sessions ledger

pub returns-clause-limit_of_none : goal.returns-clause-limit_of_none
returns-clause-limit_of_none c = limit-of-none
