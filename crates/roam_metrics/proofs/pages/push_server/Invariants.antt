use Rattle.roam_metrics.specs.Pages.{MoreLines}
use Rattle.roam_metrics.proofs.pages.push_server.Given as goal

-- lines were added
abbrev pub invariant-loop-of_server : goal.invariant-loop-of_server
invariant-loop-of_server g l = MoreLines l.initial.page.items l.page.items
