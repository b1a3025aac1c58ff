use Rattle.std.proofs.Common.{sym, ◌∙◌}
use Rattle.std.specs.List.{list_any}
use Rattle.roam_forward.specs.Removal.{is_kind}
use Rattle.roam_forward.proofs.RemovalLemmas.{or_first, or_second, kind_kept, kind_free}
use Rattle.roam_forward.proofs.removal.removes_kind.Goals as goal

-- it names a session, which passes
pub returns-then-is_kept : goal.returns-then-is_kept
returns-then-is_kept c =
    sym (kind_kept c.args.removal.now c.args.kind (sym c.is_kept.ensures ∙ c.if-is_kept.true))

-- the first list names it
pub returns-then-any_kind : goal.returns-then-any_kind
returns-then-any_kind c =
    let removal = c.args.removal.now in
    let first = list_any (is_kind c.args.kind) removal.peer.now in
    let second = list_any (is_kind c.args.kind) removal.realm.now in
    c.any_kind.ensures ∙ sym (or_first first second (sym c.any_kind.ensures ∙ c.if-any_kind.true))
    ∙ sym (kind_free c.args.removal.now c.args.kind (sym c.is_kept.ensures ∙ c.if-is_kept.false))

-- the second decides
pub returns-else-any_kind : goal.returns-else-any_kind
returns-else-any_kind c =
    let removal = c.args.removal.now in
    let first = list_any (is_kind c.args.kind) removal.peer.now in
    let second = list_any (is_kind c.args.kind) removal.realm.now in
    c.any_kind-else-any_kind.ensures
    ∙ sym (or_second first second (sym c.any_kind.ensures ∙ c.if-any_kind.false))
    ∙ sym (kind_free c.args.removal.now c.args.kind (sym c.is_kept.ensures ∙ c.if-is_kept.false))
