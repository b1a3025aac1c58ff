use Rattle.roam_reply.proofs.NakLemmas.{one_cause-nak, cause-nak, proxy_states-nak, no_seal-nak, nothing_else-nak, alike-nak}
use Rattle.roam_reply.proofs.laws.nak_carries.Goals as goal

pub returns-clause-one_cause : goal.returns-clause-one_cause
returns-clause-one_cause c = one_cause-nak

pub returns-clause-cause : goal.returns-clause-cause
returns-clause-cause c = cause-nak

pub returns-clause-proxy_states : goal.returns-clause-proxy_states
returns-clause-proxy_states c = proxy_states-nak

pub returns-clause-no_seal : goal.returns-clause-no_seal
returns-clause-no_seal c = no_seal-nak

pub returns-clause-nothing_else : goal.returns-clause-nothing_else
returns-clause-nothing_else c = nothing_else-nak

pub returns-clause-alike : goal.returns-clause-alike
returns-clause-alike c = alike-nak
