use Rattle.std.proofs.Common.{ap, sym, ◌∙◌}
use Rattle.std.specs.Prelude.{not}
use Rattle.roam_forward.specs.Removal.{removed_by}
use Rattle.roam_forward.specs.Without.{without}
use Rattle.roam_forward.specs.Shaped.{shown_shaping, takes_operator_name}
use Rattle.roam_forward.proofs.AddedLemmas.{absent-added, name-added, no_name-added}
use Rattle.roam_forward.proofs.added.operator_name_to_add.Goals as goal

pub returns-then-is_none-clause-name : goal.returns-then-is_none-clause-name
returns-then-is_none-clause-name c =
    absent-added (λ name. name.now) (takes_operator_name c.args.request.now.code) c.args.shaping.now.operator_name
    (without (removed_by c.args.shaping.now.removal) c.args.request.now.attributes)
    (c.is_none.ensures ∙ ap not c.if-is_none.true)

pub returns-then-is_none-clause-short : goal.returns-then-is_none-clause-short
returns-then-is_none-clause-short c = λ name none. absurd (cc none)

pub returns-then-takes_name-clause-name : goal.returns-then-takes_name-clause-name
returns-then-takes_name-clause-name c =
    name-added (takes_operator_name c.args.request.now.code) (shown_shaping c.args.shaping.now).operator_name
    (without (removed_by c.args.shaping.now.removal) c.args.request.now.attributes)
    (sym c.takes_name.ensures ∙ c.if-takes_name.true)

pub returns-then-takes_name-clause-short : goal.returns-then-takes_name-clause-short
returns-then-takes_name-clause-short c = c.requires

pub returns-else-takes_name-clause-name : goal.returns-else-takes_name-clause-name
returns-else-takes_name-clause-name c =
    no_name-added (takes_operator_name c.args.request.now.code) (shown_shaping c.args.shaping.now).operator_name
    (without (removed_by c.args.shaping.now.removal) c.args.request.now.attributes)
    (sym c.takes_name.ensures ∙ c.if-takes_name.false)

pub returns-else-takes_name-clause-short : goal.returns-else-takes_name-clause-short
returns-else-takes_name-clause-short c = λ name none. absurd (cc none)
