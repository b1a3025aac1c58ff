use Rattle.roam_metrics.specs.Lines.{header_text}
use Rattle.roam_metrics.specs.Pages.{header}
use Rattle.roam_metrics.proofs.PageLemmas.{more-lines}
use Rattle.roam_metrics.proofs.samples.push_header.Goals as goal

pub returns-clause-lines : goal.returns-clause-lines
returns-clause-lines c =
    more-lines c.write_header.result c.args.page.now.items c.write_header.new.page.items
    (header_text c.args.name.now c.args.help.now c.args.kind) c.write_header.ensures
    (λ lines. header c.args.page.now.items c.args.name.now c.args.help.now c.args.kind lines)
