use Rattle.roam_admission.proofs.AnswerLemmas.{reject_reads, reject_has_length, reject_is_signed, reject_is_well_sealed, reject_has_seal_first, reject_carries_proxy_states}
use Rattle.roam_admission.proofs.laws.rejects.Goals as goal

pub returns : goal.returns
returns c = record {
  reads = reject_reads;
  length = reject_has_length;
  signed = reject_is_signed;
  well_sealed = reject_is_well_sealed;
  seal_first = reject_has_seal_first;
  proxy_states = reject_carries_proxy_states;
}
