use Rattle.std.proofs.Common.{sym, ◌∙◌}
use Rattle.std.specs.List.{list_any}
use Rattle.roam_forward.specs.Removal.{is_some_of}
use Rattle.roam_forward.proofs.RemovalLemmas.{or_first, or_second, some_of_removed}
use Rattle.roam_forward.proofs.removal.removes_some_of.Goals as goal

-- the first list names it
pub returns-then-any_of : goal.returns-then-any_of
returns-then-any_of c =
    let removal = c.args.removal.now in
    let first = list_any (is_some_of c.args.vendor) removal.peer.now in
    let second = list_any (is_some_of c.args.vendor) removal.realm.now in
    c.any_of.ensures ∙ sym (or_first first second (sym c.any_of.ensures ∙ c.if-any_of.true))
    ∙ sym (some_of_removed c.args.removal.now c.args.vendor)

-- the second decides
pub returns-else-any_of : goal.returns-else-any_of
returns-else-any_of c =
    let removal = c.args.removal.now in
    let first = list_any (is_some_of c.args.vendor) removal.peer.now in
    let second = list_any (is_some_of c.args.vendor) removal.realm.now in
    c.any_of-else-any_of.ensures
    ∙ sym (or_second first second (sym c.any_of.ensures ∙ c.if-any_of.false))
    ∙ sym (some_of_removed c.args.removal.now c.args.vendor)
