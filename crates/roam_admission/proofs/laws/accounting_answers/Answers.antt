use Rattle.roam_admission.proofs.AccountingLemmas.{accounting_has_code, accounting_has_identifier, accounting_is_no_longer, accounting_reads, accounting_is_signed, accounting_is_well_sealed, accounting_carries_proxy_states}
use Rattle.roam_admission.proofs.laws.accounting_answers.Goals as goal

pub returns : goal.returns
returns c = record {
  code = accounting_has_code;
  id = accounting_has_identifier;
  no_longer = accounting_is_no_longer;
  reads = accounting_reads;
  signed = accounting_is_signed;
  well_sealed = accounting_is_well_sealed;
  proxy_states = accounting_carries_proxy_states;
}
