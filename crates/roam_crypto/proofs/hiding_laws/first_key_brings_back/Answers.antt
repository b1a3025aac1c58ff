use Rattle.roam_crypto.proofs.HidingLemmas.{first_key_back}
use Rattle.roam_crypto.proofs.hiding_laws.first_key_brings_back.Goals as goal

pub returns : goal.returns
returns c = first_key_back
