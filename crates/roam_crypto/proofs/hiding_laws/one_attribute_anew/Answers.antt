use Rattle.roam_crypto.proofs.VendorLemmas.{salted_hidden_anew_is, same_attribute_anew}
use Rattle.roam_crypto.proofs.hiding_laws.one_attribute_anew.Goals as goal

pub returns : goal.returns
returns c = λ from to old. record {
  holds = salted_hidden_anew_is from to old;
  no_other = λ other h. same_attribute_anew from to old other _ h (salted_hidden_anew_is from to old);
}
