use Rattle.roam_crypto.proofs.SubAttributeLemmas.{same_subs}
use Rattle.roam_crypto.proofs.hiding_laws.one_list_of_sub_attributes.Goals as goal

pub returns : goal.returns
returns c = same_subs
