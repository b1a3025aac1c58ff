use Rattle.std.proofs.Common.{sym, ◌∙◌, rules}
use Rattle.roam_wire.proofs.WalkLemmas.{IsSome-behind, first_and_others, none_left}
use Rattle.roam_wire.proofs.attributes.AttrsIterator.next.Goals as goal

-- where nothing is found at the front, no attribute is left
pub returns-in_err-first-clause-steps : goal.returns-in_err-first-clause-steps
returns-in_err-first-clause-steps c =
    let none = sym c.self.view_is ∙ none_left _ (sym c.in_err-first.ensures) c.self.invariant in
    rw c.from_residual.ensures (none, none)

-- the octets behind the first attribute are attributes too
pub invariant_of-self : goal.invariant_of-self
invariant_of-self c = (IsSome-behind _ _ (sym c.in_ok-first.ensures)).0 c.self.invariant

-- the first attribute is the first of the list
pub returns-clause-steps : goal.returns-clause-steps
returns-clause-steps c = sym c.self.view_is ∙ first_and_others _ _ (sym c.in_ok-first.ensures) c.self.invariant

pub returns-clause-goes : goal.returns-clause-goes
returns-clause-goes c =
    let steps = returns-clause-steps c in
    rw steps (search rules)
