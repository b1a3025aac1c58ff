use Rattle.roam_crypto.proofs.SealingLemmas.{IsAt}
use Rattle.roam_crypto.proofs.pieces.value_place.Given as goal

-- the attributes that are left begin at `at`, and none before them is a Message-Authenticator
abbrev pub invariant-loop-attribute : goal.invariant-loop-attribute
invariant-loop-attribute l = IsAt l.fn.view.attributes l.attribute-iterator l.at
