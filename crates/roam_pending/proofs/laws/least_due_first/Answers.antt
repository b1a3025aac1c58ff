use Rattle.roam_pending.proofs.DueListLemmas.{due-taken, due-put}
use Rattle.roam_pending.proofs.laws.least_due_first.Goals as goal

pub returns-clause-taken : goal.returns-clause-taken
returns-clause-taken c = due-taken

pub returns-clause-put_back : goal.returns-clause-put_back
returns-clause-put_back c = due-put
