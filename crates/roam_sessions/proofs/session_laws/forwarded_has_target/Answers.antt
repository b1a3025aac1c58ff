use Rattle.roam_sessions.specs.Causes.{cause, names_sessions}
use Rattle.roam_sessions.specs.Target.{target, target_in}
use Rattle.roam_sessions.proofs.CauseLemmas.{among-found, forwarded-at-target, realm-at-target}
use Rattle.roam_sessions.proofs.session_laws.forwarded_has_target.Goals as goal

pub returns-clause-target : goal.returns-clause-target
unfolding cause
returns-clause-target c = λ entry peers realm named attributes sessions none.
    let found = forwarded-at-target (names_sessions entry) realm named attributes sessions
    (target_in entry peers attributes) none in
    let peer = among-found entry peers (target peers attributes) found.0.0 found.0.1 in
    ((found.0.0, peer.0, peer.1), found.1)

pub returns-clause-realm : goal.returns-clause-realm
unfolding cause
returns-clause-realm c = λ entry peers realm named attributes name sessions has none.
    realm-at-target (names_sessions entry) realm named attributes name sessions (target_in entry peers attributes) has
    none
