use Rattle.std.proofs.Common.{◌≡◌, ◌<◌, ◌+◌, length, arith, ap, sym, ◌∙◌, subst}
use Rattle.std.specs.Prelude.{vec_len, vec_capacity}
use Rattle.std.specs.List.{insert}
use Rattle.roam_pending.specs.EntryList.{Held, IsEntryList, IsNew, below, put}
use Rattle.roam_pending.specs.Shown.{shown, shown_all}
use Rattle.roam_pending.proofs.OrderLemmas.{list-new}
use Rattle.roam_pending.proofs.PlaceLemmas.{count_below-length, put_at}
use Rattle.roam_pending.proofs.pending.Pending.insert_reserved.Goals as goal

-- there is room, as the condition says
pub unwrap-requires : goal.unwrap-requires
unwrap-requires g c = c.insert.ensures.succeeds (omega (arith, ap (λ (h : Held). h.spare) c.self.view_is))

-- the entry is new to the list as it stands in the field
new : (g : _) (c : goal.After-unwrap g) → IsNew (shown c.args.entry) (shown_all c.self.inside.entries.items)
new g c = subst (λ (h : Held). IsNew (shown c.args.entry) h.entries) (sym c.self.view_is) c.requires.new

-- it stands in order of ticket
stands : (g : _) (c : goal.After-unwrap g) →
    shown_all c.insert.new.self.items ≡ put (shown c.args.entry) (shown_all c.self.inside.entries.items)
stands g c =
    let es = c.self.inside.entries.items in
    let items_are : c.insert.new.self.items ≡ insert es c.count_below-place.result c.args.entry =
    rw c.unwrap.ensures at c.insert.ensures.items in
    let counted : c.count_below-place.result ≡ length (below c.args.entry.ticket (shown_all es)) =
    (rw c.deref.ensures.value at c.count_below-place.ensures) ∙ count_below-length c.args.entry.ticket es in
    ap shown_all items_are ∙ put_at c.args.entry es c.count_below-place.result c.self.invariant.in_order
    (new g c).ticket counted

pub invariant_of-self : goal.invariant_of-self
invariant_of-self g c = subst IsEntryList (sym (stands g c))
    (list-new (shown c.args.entry) (shown_all c.self.inside.entries.items) c.self.invariant (new g c))

pub returns-clause-entries : goal.returns-clause-entries
returns-clause-entries g c = stands g c ∙ ap (λ (h : Held). put (shown c.args.entry) h.entries) c.self.view_is

-- the place that was left is taken
pub returns-clause-room : goal.returns-clause-room
returns-clause-room g c =
    let spare = ap (λ (h : Held). h.spare) c.self.view_is in
    let lt : vec_len c.self.inside.entries < vec_capacity c.self.inside.entries = omega (arith, spare) in
    let same = c.insert.ensures.in_place lt in
    let longer : vec_len c.insert.new.self ≡ vec_len c.self.inside.entries + 1 =
    rw c.unwrap.ensures at c.insert.ensures.len in
    omega (arith, spare, same, longer)
