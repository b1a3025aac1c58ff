use Rattle.roam_metrics.specs.Pages.{MoreLines}
use Rattle.roam_metrics.proofs.pages.push_all_refusals.Given as goal

-- lines were added
abbrev pub invariant-loop-value : goal.invariant-loop-value
invariant-loop-value g l = MoreLines l.initial.page.items l.page.items
