use Rattle.roam_metrics.specs.Pages.{MoreLines}
use Rattle.roam_metrics.proofs.about_page.push_limit.Given as goal

-- lines were added
abbrev pub invariant-loop-realm : goal.invariant-loop-realm
invariant-loop-realm l = MoreLines l.initial.page.items l.page.items
