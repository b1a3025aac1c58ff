use Rattle.roam_metrics.specs.Pages.{AreLines}
use Rattle.roam_metrics.proofs.pages.page.Given as goal

-- it is a page so far
abbrev pub invariant-loop-scope : goal.invariant-loop-scope
invariant-loop-scope g l = AreLines l.page.items
