use Rattle.std.proofs.Common.{sym, ◌∙◌}
use Rattle.std.specs.List.{list_any}
use Rattle.roam_forward.specs.Removal.{is_kind_of}
use Rattle.roam_forward.proofs.RemovalLemmas.{or_first, or_second, kind_of_removed}
use Rattle.roam_forward.proofs.removal.removes_kind_of.Goals as goal

-- the first list names it
pub returns-then-any_kind_of : goal.returns-then-any_kind_of
returns-then-any_kind_of c =
    let removal = c.args.removal.now in
    let first = list_any (is_kind_of c.args.vendor c.args.kind) removal.peer.now in
    let second = list_any (is_kind_of c.args.vendor c.args.kind) removal.realm.now in
    c.any_kind_of.ensures ∙ sym (or_first first second (sym c.any_kind_of.ensures ∙ c.if-any_kind_of.true))
    ∙ sym (kind_of_removed c.args.removal.now c.args.vendor c.args.kind)

-- the second decides
pub returns-else-any_kind_of : goal.returns-else-any_kind_of
returns-else-any_kind_of c =
    let removal = c.args.removal.now in
    let first = list_any (is_kind_of c.args.vendor c.args.kind) removal.peer.now in
    let second = list_any (is_kind_of c.args.vendor c.args.kind) removal.realm.now in
    c.any_kind_of-else-any_kind_of.ensures
    ∙ sym (or_second first second (sym c.any_kind_of.ensures ∙ c.if-any_kind_of.false))
    ∙ sym (kind_of_removed c.args.removal.now c.args.vendor c.args.kind)
