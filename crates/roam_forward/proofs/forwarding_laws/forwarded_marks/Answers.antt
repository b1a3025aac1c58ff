use Rattle.roam_forward.proofs.LawLemmas.{code-forwarded, id-forwarded, ticket-forwarded}
use Rattle.roam_forward.proofs.forwarding_laws.forwarded_marks.Goals as goal

pub returns-clause-code : goal.returns-clause-code
returns-clause-code c = code-forwarded

pub returns-clause-identifier : goal.returns-clause-identifier
returns-clause-identifier c = id-forwarded

pub returns-clause-ticket : goal.returns-clause-ticket
returns-clause-ticket c = ticket-forwarded
