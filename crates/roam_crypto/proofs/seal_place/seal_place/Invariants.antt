use Rattle.roam_crypto.proofs.SealPlaceLemmas.{IsSearched}
use Rattle.roam_crypto.proofs.seal_place.seal_place.Given as goal

-- what was met among the attributes that were passed, and where those begin that are left
abbrev pub invariant-loop-attribute : goal.invariant-loop-attribute
invariant-loop-attribute l = IsSearched l.fn.view.attributes l.attribute-iterator l.at l.met
