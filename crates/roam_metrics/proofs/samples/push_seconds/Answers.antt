use Rattle.roam_metrics.specs.Lines.{seconds_text}
use Rattle.roam_metrics.specs.Pages.{seconds}
use Rattle.roam_metrics.proofs.PageLemmas.{more-lines}
use Rattle.roam_metrics.proofs.samples.push_seconds.Goals as goal

pub returns-clause-lines : goal.returns-clause-lines
returns-clause-lines c =
    more-lines c.write_seconds.result c.args.page.now.items c.write_seconds.new.page.items
    (seconds_text c.args.name.now c.args.labels.now c.args.milliseconds) c.write_seconds.ensures
    (λ lines. seconds c.args.page.now.items c.args.name.now c.args.labels.now c.args.milliseconds lines)
