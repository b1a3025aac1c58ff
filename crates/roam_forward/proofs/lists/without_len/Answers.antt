use Rattle.std.proofs.Common.{length, ap, sym, ◌∙◌}
use Rattle.roam_forward.specs.Removal.{removed_by}
use Rattle.roam_forward.proofs.WholeLemmas.{all_text}
use Rattle.roam_forward.proofs.lists.without_len.Goals as goal

pub returns-then-removes_nothing-clause-all : goal.returns-then-removes_nothing-clause-all
returns-then-removes_nothing-clause-all c =
    ap length (c.all_octets.ensures.text
    ∙ sym (all_text (removed_by c.args.removal.now) c.args.view.now.attributes
    (c.removes_nothing.ensures c.if-removes_nothing.true)))
