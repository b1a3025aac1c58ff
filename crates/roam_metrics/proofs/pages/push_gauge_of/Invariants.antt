use Rattle.roam_metrics.specs.Pages.{MoreLines}
use Rattle.roam_metrics.proofs.pages.push_gauge_of.Given as goal

-- lines were added
abbrev pub invariant-loop-gauge : goal.invariant-loop-gauge
invariant-loop-gauge g l = MoreLines l.initial.page.items l.page.items
