use Rattle.roam_crypto.proofs.HidingLemmas.{plain_text_hidden, same_plain}
use Rattle.roam_crypto.proofs.hiding_laws.one_plain_text.Goals as goal

pub returns : goal.returns
returns c = λ key hidden whole. record {
  holds = plain_text_hidden key hidden whole;
  no_other = λ other h. same_plain key other _ hidden h (plain_text_hidden key hidden whole);
}
