use Rattle.roam_admission.proofs.AnswerLemmas.{status_at_auth, status_at_acct, status_has_identifier, status_is_no_longer, status_reads, status_is_signed, status_is_well_sealed, status_has_seal_first, status_carries_proxy_states}
use Rattle.roam_admission.proofs.laws.status_answers.Goals as goal

pub returns : goal.returns
returns c = record {
  at_auth = status_at_auth;
  at_acct = status_at_acct;
  id = status_has_identifier;
  no_longer = status_is_no_longer;
  reads = status_reads;
  signed = status_is_signed;
  well_sealed = status_is_well_sealed;
  seal_first = status_has_seal_first;
  proxy_states = status_carries_proxy_states;
}
