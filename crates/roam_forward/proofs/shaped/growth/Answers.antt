use Rattle.std.proofs.Common.{sym, ◌∙◌}
use Rattle.roam_forward.specs.Shaped.{shown_shaping}
use Rattle.roam_forward.proofs.AddedLemmas.{growth-other, growth-sealed}
use Rattle.roam_forward.proofs.shaped.growth.Goals as goal

pub returns-then-takes_seal-clause-size : goal.returns-then-takes_seal-clause-size
returns-then-takes_seal-clause-size c =
    growth-sealed (shown_shaping c.args.shaping.now) c.args.request.now
    (sym c.takes_seal.ensures ∙ c.if-takes_seal.true)

pub returns-else-takes_seal-clause-size : goal.returns-else-takes_seal-clause-size
returns-else-takes_seal-clause-size c =
    growth-other (shown_shaping c.args.shaping.now) c.args.request.now
    (sym c.takes_seal.ensures ∙ c.if-takes_seal.false)
