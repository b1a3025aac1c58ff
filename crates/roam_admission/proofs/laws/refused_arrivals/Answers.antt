use Rattle.roam_admission.proofs.RefusedArrivalLemmas.{other-code_is_refused, unknown-is_refused, unread-is_refused}
use Rattle.roam_admission.proofs.laws.refused_arrivals.Goals as goal

-- the laws are the lemmas
pub returns : goal.returns
returns c = record {
  unread = unread-is_refused;
  unknown = unknown-is_refused;
  code = other-code_is_refused;
}
