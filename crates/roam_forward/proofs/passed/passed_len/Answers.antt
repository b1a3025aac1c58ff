use Rattle.std.proofs.Common.{List, length, sym, ap, ◌∙◌, arith, length-append, []}
use Rattle.roam_wire.specs.Packet.{Attribute, attributes_text}
use Rattle.roam_wire.specs.Shown.{shown}
use Rattle.roam_forward.specs.Removal.{removed_by}
use Rattle.roam_forward.specs.declared.passing.Passing.TheVariants.{Nothing, Whole, Parts}
use Rattle.roam_forward.proofs.LeftLemmas.{how_passed-parts, passed-as}
use Rattle.roam_forward.proofs.passed.passed_len.Goals as goal

pub returns-in-Nothing-clause-all : goal.returns-in-Nothing-clause-all
returns-in-Nothing-clause-all c =
    let is = passed-as (removed_by c.args.removal.now) (shown c.args.attribute.now) Nothing
    (sym c.how_passed.ensures ∙ c.in-Nothing.is) in
    ap (λ (l : List Attribute). length (attributes_text l)) (sym is)

pub returns-in-Whole-clause-all : goal.returns-in-Whole-clause-all
returns-in-Whole-clause-all c =
    let is = passed-as (removed_by c.args.removal.now) (shown c.args.attribute.now) Whole
    (sym c.how_passed.ensures ∙ c.in-Whole.is) in
    omega (
      arith,
      ap (λ (l : List Attribute). length (attributes_text l)) is,
      length-append c.args.attribute.now.value.now [],
    )

pub returns-in-Parts-clause-all : goal.returns-in-Parts-clause-all
returns-in-Parts-clause-all c =
    let is = passed-as (removed_by c.args.removal.now) (shown c.args.attribute.now) Parts
    (sym c.how_passed.ensures ∙ c.in-Parts.is) in
    c.parts_len.ensures.all ∙ ap (λ (l : List Attribute). length (attributes_text l)) (sym is)

-- only a Vendor-Specific with a vendor passes in parts
pub parts_len-requires-clause-vendor : goal.parts_len-requires-clause-vendor
parts_len-requires-clause-vendor c =
    (how_passed-parts (removed_by c.args.removal.now) (shown c.args.attribute.now)
    (sym c.how_passed.ensures ∙ c.in-Parts.is)).vendor
