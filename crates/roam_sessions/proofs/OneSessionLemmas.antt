-- In a realm with `own_sessions` a request without a cause is of one session of the ledger.
use Rattle.roam_sessions.specs.CauseLaws.{ForwardedIsOfOneSession}
use Rattle.roam_sessions.specs.Causes.{cause, names_sessions}
use Rattle.roam_sessions.specs.Target.{target, target_in}
use Rattle.roam_sessions.proofs.CauseLemmas.{among-found, own-at-target}

pub forwarded_is_of_one_session : ForwardedIsOfOneSession
unfolding cause
forwarded_is_of_one_session = λ entry peers realm named attributes sessions own none.
    own-at-target peers (names_sessions entry) realm named attributes sessions (target_in entry peers attributes) own
    (λ peer at. (among-found entry peers (target peers attributes) peer at).0) none
