use Rattle.std.proofs.Common.{subst}
use Rattle.roam_sessions.specs.Parts.{AreShort}
use Rattle.roam_sessions.specs.Sessions.{Session}
use Rattle.roam_sessions.proofs.ShortPartLemmas.{short-session}
use Rattle.roam_sessions.proofs.ledger.Sessions.restore.Goals as goal

-- what is a session's has short parts
pub returns-clause-others : goal.returns-clause-others
returns-clause-others g c = λ long.
    absurd (long (subst (λ (s : Session). AreShort s) c.in-Some.ensures.some (short-session c.in-Some.session)))
