use Rattle.std.proofs.Common.{subst, sym}
use Rattle.roam_metrics.specs.Pages.{AreLines, none}
use Rattle.roam_metrics.proofs.pages.page.Goals as goal

pub loop-scope-init : goal.loop-scope-init
loop-scope-init g c =
    c.in_ok-push_all_refusals.ensures
    (c.in_ok-push_server.ensures (c.in_ok-push_about.ensures (subst AreLines (sym c.new-page.ensures.items) none)))
