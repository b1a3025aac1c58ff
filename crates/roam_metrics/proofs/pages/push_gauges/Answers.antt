use Rattle.roam_metrics.proofs.PageLemmas.{more-lines_after}
use Rattle.roam_metrics.proofs.pages.push_gauges.Goals as goal

pub returns : goal.returns
returns g c =
    more-lines_after c.push_history.result c.args.page.now.items c.loop-family.page.items c.push_history.new.page.items
    c.loop-family.invariant c.push_history.ensures
