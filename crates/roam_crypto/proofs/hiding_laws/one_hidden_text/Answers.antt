use Rattle.roam_crypto.proofs.HidingLemmas.{hidden_text_hides, same_hidden}
use Rattle.roam_crypto.proofs.hiding_laws.one_hidden_text.Goals as goal

pub returns : goal.returns
returns c = λ key plain whole. record {
  holds = hidden_text_hides key plain whole;
  no_other = λ other h. same_hidden key plain other _ h (hidden_text_hides key plain whole);
}
