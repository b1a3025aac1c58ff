use Rattle.roam_metrics.specs.Pages.{MoreLines}
use Rattle.roam_metrics.proofs.pages.push_scope.Given as goal

-- lines were added
abbrev pub invariant-loop-family : goal.invariant-loop-family
invariant-loop-family g l = MoreLines l.initial.page.items l.page.items
