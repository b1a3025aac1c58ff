use Rattle.std.proofs.Common.{◌∙◌}
use Rattle.roam_conf.proofs.IndexLemmas.{shown_lookup}
use Rattle.roam_conf.proofs.index.owner_of.Goals as goal

pub returns : goal.returns
returns c = c.copied.ensures ∙ c.get.ensures.value ∙ shown_lookup c.args.key.now c.args.index.now.entries
