use Rattle.roam_pending.proofs.DueListLemmas.{strict-due, due-in, in-due}
use Rattle.roam_pending.proofs.laws.due_entries.Goals as goal

pub returns-clause-rising : goal.returns-clause-rising
returns-clause-rising c = strict-due

pub returns-clause-reached : goal.returns-clause-reached
returns-clause-reached c = λ now d es. (due-in now es d, λ h. in-due now es d h.0 h.1.held h.1.at h.1.reached)
