use Rattle.std.proofs.Common.{◌++◌, List, ℕ, ap, refl, sym, ◌∙◌, arith}
use Rattle.roam_forward.proofs.AddedLemmas.{length-name, text-name}
use Rattle.roam_forward.proofs.added.append_name.Goals as goal

pub append_operator_name-requires-clause-short : goal.append_operator_name-requires-clause-short
append_operator_name-requires-clause-short g c = c.requires.short c.in-Some.name.now (rw c.in-Some.is refl)

pub append_operator_name-requires-clause-room : goal.append_operator_name-requires-clause-room
append_operator_name-requires-clause-room g c =
    let room = rw c.in-Some.is at c.requires.room in
    omega (arith, room, length-name c.in-Some.name.now)

pub returns-in-Some-clause-items : goal.returns-in-Some-clause-items
returns-in-Some-clause-items g c =
    rw c.in-Some.is
    (c.append_operator_name.ensures.items
    ∙ ap (λ (t : List ℕ). c.args.out.now.items ++ t) (sym (text-name c.in-Some.name.now)))
