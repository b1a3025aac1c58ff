use Rattle.roam_metrics.specs.Pages.{MoreLines}
use Rattle.roam_metrics.proofs.pages.push_family.Given as goal

-- lines were added
abbrev pub invariant-loop-named : goal.invariant-loop-named
invariant-loop-named g l = MoreLines l.initial.page.items l.page.items
