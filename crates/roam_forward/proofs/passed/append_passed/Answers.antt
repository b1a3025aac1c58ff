use Rattle.std.proofs.Common.{List, ℕ, [], ◌++◌, length, sym, ap, ◌∙◌, arith, append-nil, length-append}
use Rattle.roam_wire.specs.Packet.{Attribute, attributes_text}
use Rattle.roam_wire.specs.Shown.{shown}
use Rattle.roam_forward.specs.Removal.{removed_by}
use Rattle.roam_forward.specs.declared.passing.Passing.TheVariants.{Nothing, Whole, Parts}
use Rattle.roam_forward.proofs.LeftLemmas.{how_passed-parts, passed-as, text-one}
use Rattle.roam_forward.proofs.passed.append_passed.Goals as goal

pub append_attribute-requires-clause-room : goal.append_attribute-requires-clause-room
append_attribute-requires-clause-room g c =
    let is = passed-as (removed_by c.args.removal.now) (shown c.args.attribute) Whole
    (sym c.how_passed.ensures ∙ c.in-Whole.is) in
    omega (
      arith,
      c.requires.room,
      ap (λ (l : List Attribute). length (attributes_text l)) is,
      length-append c.args.attribute.value.now [],
    )

pub append_parts-requires-clause-room : goal.append_parts-requires-clause-room
append_parts-requires-clause-room g c =
    let is = passed-as (removed_by c.args.removal.now) (shown c.args.attribute) Parts
    (sym c.how_passed.ensures ∙ c.in-Parts.is) in
    omega (arith, c.requires.room, ap (λ (l : List Attribute). length (attributes_text l)) is)

-- only a Vendor-Specific with a vendor passes in parts
pub append_parts-requires-clause-vendor : goal.append_parts-requires-clause-vendor
append_parts-requires-clause-vendor g c =
    (how_passed-parts (removed_by c.args.removal.now) (shown c.args.attribute)
    (sym c.how_passed.ensures ∙ c.in-Parts.is)).vendor

pub returns-in-Nothing-clause-items : goal.returns-in-Nothing-clause-items
returns-in-Nothing-clause-items g c =
    let out : List ℕ = c.args.out.now.items in
    let is = passed-as (removed_by c.args.removal.now) (shown c.args.attribute) Nothing
    (sym c.how_passed.ensures ∙ c.in-Nothing.is) in
    sym (ap (λ (l : List Attribute). out ++ attributes_text l) is ∙ append-nil out)

pub returns-in-Whole-clause-items : goal.returns-in-Whole-clause-items
returns-in-Whole-clause-items g c =
    let out : List ℕ = c.args.out.now.items in
    let is = passed-as (removed_by c.args.removal.now) (shown c.args.attribute) Whole
    (sym c.how_passed.ensures ∙ c.in-Whole.is) in
    c.append_attribute.ensures.items
    ∙ ap (λ (t : List ℕ). out ++ t) (sym (text-one (shown c.args.attribute)))
    ∙ ap (λ (l : List Attribute). out ++ attributes_text l) (sym is)

pub returns-in-Parts-clause-items : goal.returns-in-Parts-clause-items
returns-in-Parts-clause-items g c =
    let out : List ℕ = c.args.out.now.items in
    let is = passed-as (removed_by c.args.removal.now) (shown c.args.attribute) Parts
    (sym c.how_passed.ensures ∙ c.in-Parts.is) in
    c.append_parts.ensures.items ∙ ap (λ (l : List Attribute). out ++ attributes_text l) (sym is)
