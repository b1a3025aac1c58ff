use Rattle.roam_crypto.proofs.SaltedTestLemmas.{means-salted}
use Rattle.roam_crypto.proofs.hiding_laws.salted_decided.Goals as goal

pub returns : goal.returns
returns c = means-salted
