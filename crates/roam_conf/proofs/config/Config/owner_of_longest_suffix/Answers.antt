use Rattle.std.proofs.Common.{◌∙◌, List, ℕ, ap}
use Rattle.roam_conf.specs.Config.{suffix}
use Rattle.roam_conf.specs.Lookup.{owner_with, first_answer, after_dots}
use Rattle.roam_conf.specs.Shown.{shown}
use Rattle.roam_conf.proofs.config.Config.owner_of_longest_suffix.Goals as goal

-- from the first place on at which a suffix may begin
pub returns-then-may_follow : goal.returns-then-may_follow
returns-then-may_follow c =
    let f = λ (name : List ℕ). owner_with (shown c.args.self.now) (suffix name) in
    c.owner_of_near_suffix.ensures ∙ ap (λ l. first_answer f (after_dots l)) c.from_place.ensures ∙ c.loop-i.invariant

-- past a place at which none does
pub loop-i-preserved : goal.loop-i-preserved
loop-i-preserved c = c.may_follow.ensures.none c.if-may_follow.false ∙ c.loop-i.invariant
