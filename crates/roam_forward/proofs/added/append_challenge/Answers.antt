use Rattle.std.proofs.Common.{◌++◌, List, ℕ, [], ap, sym, ◌∙◌, arith, length-append}
use Rattle.roam_wire.specs.declared.attribute_type.TheConstants.{CHAP_CHALLENGE}
use Rattle.roam_forward.proofs.LeftLemmas.{text-one}
use Rattle.roam_forward.proofs.added.append_challenge.Goals as goal

pub append_attribute-requires-clause-room : goal.append_attribute-requires-clause-room
append_attribute-requires-clause-room g c =
    let room = rw c.in-Some.is at c.requires in
    omega (arith, room, length-append c.in-Some.value [])

pub returns-in-Some-clause-items : goal.returns-in-Some-clause-items
returns-in-Some-clause-items g c =
    rw c.in-Some.is
    (c.append_attribute.ensures.items
    ∙ ap (λ (t : List ℕ). c.args.out.now.items ++ t)
    (sym (text-one (record { kind = CHAP_CHALLENGE; value = c.in-Some.value }))))
