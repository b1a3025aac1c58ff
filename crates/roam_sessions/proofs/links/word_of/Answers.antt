use Rattle.std.proofs.Common.{Some, ap, ◌∙◌}
use Rattle.roam_sessions.proofs.LinkLemmas.{written-none, written-some}
use Rattle.roam_sessions.proofs.links.word_of.Goals as goal

pub returns-in-None : goal.returns-in-None
returns-in-None c = λ ne. rw c.in-None.is written-none

pub returns-in-Some : goal.returns-in-Some
returns-in-Some c = λ ne. rw c.in-Some.is (written-some c.in-Some.number
    (λ e. ne (c.in-Some.is ∙ ap Some e)))
