use Rattle.roam_metrics.specs.Lines.{sample_text}
use Rattle.roam_metrics.specs.Pages.{sample}
use Rattle.roam_metrics.proofs.PageLemmas.{more-lines}
use Rattle.roam_metrics.proofs.samples.push_sample.Goals as goal

pub returns-clause-lines : goal.returns-clause-lines
returns-clause-lines c =
    more-lines c.write_sample.result c.args.page.now.items c.write_sample.new.page.items
    (sample_text c.args.name.now c.args.labels.now c.args.value) c.write_sample.ensures
    (λ lines. sample c.args.page.now.items c.args.name.now c.args.labels.now c.args.value lines)
