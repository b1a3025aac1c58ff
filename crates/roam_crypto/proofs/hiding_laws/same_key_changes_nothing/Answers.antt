use Rattle.roam_crypto.proofs.HidingLemmas.{same_key}
use Rattle.roam_crypto.proofs.hiding_laws.same_key_changes_nothing.Goals as goal

pub returns : goal.returns
returns c = same_key
