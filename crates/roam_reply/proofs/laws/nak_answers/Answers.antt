use Rattle.roam_reply.proofs.NakLemmas.{answers-nak, id-nak, IsSignedReply-nak}
use Rattle.roam_reply.proofs.laws.nak_answers.Goals as goal

pub returns-clause-code : goal.returns-clause-code
returns-clause-code c = answers-nak

pub returns-clause-id : goal.returns-clause-id
returns-clause-id c = id-nak

pub returns-clause-signed : goal.returns-clause-signed
returns-clause-signed c = IsSignedReply-nak
