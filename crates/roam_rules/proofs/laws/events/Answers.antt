use Rattle.roam_rules.proofs.JobLemmas.{event_taken}
use Rattle.roam_rules.proofs.laws.events.Goals as goal

-- the law is the lemma
pub returns : goal.returns
returns c = event_taken
