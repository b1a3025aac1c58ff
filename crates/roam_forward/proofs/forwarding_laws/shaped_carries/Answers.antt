use Rattle.roam_forward.proofs.ShapedLawLemmas.{nothing_shaped, shaped_access_carries}
use Rattle.roam_forward.proofs.forwarding_laws.shaped_carries.Goals as goal

-- the laws are the lemmas
pub returns : goal.returns
returns c = record { access = shaped_access_carries; nothing = nothing_shaped }
