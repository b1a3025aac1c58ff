use Rattle.roam_admission.proofs.OwnAnswerLemmas.{own_answers_decided}
use Rattle.roam_admission.proofs.laws.own_answers.Goals as goal

pub returns : goal.returns
returns c = own_answers_decided
