use Rattle.std.proofs.Common.{◌∙◌, rules}
use Rattle.roam_sim.proofs.PrintingLemmas.{printed_none, printed_more, printed_all}
use Rattle.roam_sim.proofs.printing.print_octets.Goals as goal

pub loop-piece-init : goal.loop-piece-init
loop-piece-init g c = (search rules, tt, search rules, printed_none _ _ _ (search rules))

pub loop-piece-preserved : goal.loop-piece-preserved
loop-piece-preserved g c =
    let steps = c.in-Some.ensures.steps in (
      search rules,
      tt,
      steps.0 ∙ c.loop-piece.invariant.2,
      printed_more _ _ _ _ _ _ _ c.loop-piece.invariant.3 steps.1.0 c.in_ok-print_piece.ensures,
    )

pub returns : goal.returns
returns g c = printed_all _ _ _ _ c.loop-piece.invariant.3 c.in-None.ensures.steps.1.0
