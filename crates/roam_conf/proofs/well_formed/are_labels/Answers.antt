use Rattle.std.proofs.Common.{◌==◌, rules, tests}
use Rattle.std.proofs.lemmas.Iterator.Search.{all_from_yields_List}
use Rattle.std.proofs.lemmas.Iterator.Splits.{YieldsList-from_slice_split}
use Rattle.roam_conf.specs.Texts.{parts}
use Rattle.roam_conf.specs.WellFormed.{is_label}
use Rattle.roam_conf.proofs.well_formed.are_labels.Goals as goal

pub returns : goal.returns
unfolding parts
returns c =
    all_from_yields_List is_label _ _ _ c.all.ensures.ran
    (YieldsList-from_slice_split _ (λ octet. octet == 46) c.args.name.now c.split.ensures.rest
    c.split.ensures.done c.split.ensures.closure (λ x r q k. search (rules, tests)))
    (λ x b q k. search (rules, tests))
