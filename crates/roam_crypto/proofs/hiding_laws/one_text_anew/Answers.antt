use Rattle.roam_crypto.proofs.HidingLemmas.{hidden_anew_hides, same_anew}
use Rattle.roam_crypto.proofs.hiding_laws.one_text_anew.Goals as goal

pub returns : goal.returns
returns c = λ from to old whole. record {
  holds = hidden_anew_hides from to old whole;
  no_other = λ other h. same_anew from to old other _ h (hidden_anew_hides from to old whole);
}
