use Rattle.std.proofs.Common.{sym, ◌∙◌}
use Rattle.std.specs.List.{list_any}
use Rattle.roam_forward.specs.Removal.{is_vendor}
use Rattle.roam_forward.proofs.RemovalLemmas.{or_first, or_second, vendor_removed}
use Rattle.roam_forward.proofs.removal.removes_vendor.Goals as goal

-- the first list names it
pub returns-then-any_vendor : goal.returns-then-any_vendor
returns-then-any_vendor c =
    let removal = c.args.removal.now in
    let first = list_any (is_vendor c.args.vendor) removal.peer.now in
    let second = list_any (is_vendor c.args.vendor) removal.realm.now in
    c.any_vendor.ensures ∙ sym (or_first first second (sym c.any_vendor.ensures ∙ c.if-any_vendor.true))
    ∙ sym (vendor_removed c.args.removal.now c.args.vendor)

-- the second decides
pub returns-else-any_vendor : goal.returns-else-any_vendor
returns-else-any_vendor c =
    let removal = c.args.removal.now in
    let first = list_any (is_vendor c.args.vendor) removal.peer.now in
    let second = list_any (is_vendor c.args.vendor) removal.realm.now in
    c.any_vendor-else-any_vendor.ensures
    ∙ sym (or_second first second (sym c.any_vendor.ensures ∙ c.if-any_vendor.false))
    ∙ sym (vendor_removed c.args.removal.now c.args.vendor)
