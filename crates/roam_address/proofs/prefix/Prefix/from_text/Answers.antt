use Rattle.roam_address.proofs.PrefixTextLemmas.{is_prefix_in}
use Rattle.roam_address.proofs.prefix.Prefix.from_text.Goals as goal

pub returns-clause-value : goal.returns-clause-value
returns-clause-value c = is_prefix_in c.args.text.now c.read.result c.read.ensures
