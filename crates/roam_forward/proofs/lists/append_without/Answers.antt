use Rattle.std.proofs.Common.{length, List, ℕ, ◌++◌, ap, sym, ◌∙◌, arith}
use Rattle.roam_forward.specs.Removal.{removed_by}
use Rattle.roam_forward.proofs.WholeLemmas.{all_text}
use Rattle.roam_forward.proofs.lists.append_without.Goals as goal

pub append_octets-requires : goal.append_octets-requires
append_octets-requires g c =
    omega (
      arith,
      c.requires,
      ap length (c.all_octets.ensures.text
          ∙ sym (all_text (removed_by c.args.removal.now) c.args.view.now.attributes
          (c.removes_nothing.ensures c.if-removes_nothing.true))),
    )

pub returns-then-removes_nothing-clause-items : goal.returns-then-removes_nothing-clause-items
returns-then-removes_nothing-clause-items g c =
    c.append_octets.ensures.items
    ∙ ap (λ (t : List ℕ). c.args.out.now.items ++ t) (c.all_octets.ensures.text
    ∙ sym (all_text (removed_by c.args.removal.now) c.args.view.now.attributes
    (c.removes_nothing.ensures c.if-removes_nothing.true)))
