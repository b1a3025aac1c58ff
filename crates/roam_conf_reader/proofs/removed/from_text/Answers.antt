use Rattle.std.proofs.Common.{◌∙◌, sym}
use Rattle.roam_conf.specs.Texts.{removed_in}
use Rattle.roam_conf_reader.specs.Removals.{may_name}
use Rattle.roam_conf_reader.proofs.ListLemmas.{may_name_is, not_passed, passed}
use Rattle.roam_conf_reader.proofs.removed.from_text.Goals as goal

-- the list may name it
pub returns-then-may_name : goal.returns-then-may_name
returns-then-may_name c =
    passed (may_name c.args.removals) (removed_in c.args.text.now) c.in-Some.removed c.in-Some.ensures
    (may_name_is c.args.removals c.in-Some.removed ∙ sym c.may_name.ensures ∙ c.if-may_name.true)

-- it may not
pub returns-else-may_name : goal.returns-else-may_name
returns-else-may_name c =
    not_passed (may_name c.args.removals) (removed_in c.args.text.now) c.in-Some.removed c.in-Some.ensures
    (may_name_is c.args.removals c.in-Some.removed ∙ sym c.may_name.ensures ∙ c.if-may_name.false)
