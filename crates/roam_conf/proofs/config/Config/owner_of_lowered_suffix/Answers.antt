use Rattle.std.proofs.Common.{◌∙◌}
use Rattle.roam_conf.proofs.config.Config.owner_of_lowered_suffix.Goals as goal

-- the realm of a suffix was found
pub returns-in-Some : goal.returns-in-Some
returns-in-Some c = c.in-Some.ensures ∙ c.loop-i.invariant

-- none has the suffix behind this place
pub loop-i-preserved : goal.loop-i-preserved
loop-i-preserved c = c.in_default.ensures ∙ c.loop-i.invariant
