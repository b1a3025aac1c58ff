use Rattle.roam_metrics.proofs.PageLemmas.{more-lines_after}
use Rattle.roam_metrics.proofs.times.push_times_of.Goals as goal

pub returns : goal.returns
returns g c =
    more-lines_after c.push_time.result c.args.page.now.items c.push_named.new.page.items c.push_time.new.page.items
    (λ lines. c.in_ok-push_named.ensures (c.loop-value.invariant lines)) c.push_time.ensures
