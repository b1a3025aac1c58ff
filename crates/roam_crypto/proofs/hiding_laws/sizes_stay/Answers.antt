use Rattle.roam_crypto.proofs.SaltedFunctionLemmas.{length_hidden_anew}
use Rattle.roam_crypto.proofs.VendorLemmas.{length_attribute_anew}
use Rattle.roam_crypto.proofs.hiding_laws.sizes_stay.Goals as goal

pub returns-clause-hidden : goal.returns-clause-hidden
returns-clause-hidden c = length_hidden_anew

pub returns-clause-attribute : goal.returns-clause-attribute
returns-clause-attribute c = length_attribute_anew
