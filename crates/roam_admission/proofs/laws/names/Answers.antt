use Rattle.roam_admission.proofs.NameLemmas.{name_without_at_sign, last_at_sign_decides}
use Rattle.roam_admission.proofs.laws.names.Goals as goal

-- the laws are the lemmas
pub returns : goal.returns
returns c = record { without = name_without_at_sign; last = last_at_sign_decides }
