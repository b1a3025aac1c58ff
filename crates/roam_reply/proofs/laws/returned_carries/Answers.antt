use Rattle.roam_reply.proofs.CarriedLemmas.{accept_carries, access_carries, others_carried}
use Rattle.roam_reply.proofs.laws.returned_carries.Goals as goal

pub returns-clause-accept : goal.returns-clause-accept
returns-clause-accept c = accept_carries

pub returns-clause-access : goal.returns-clause-access
returns-clause-access c = access_carries

pub returns-clause-others : goal.returns-clause-others
returns-clause-others c = others_carried
