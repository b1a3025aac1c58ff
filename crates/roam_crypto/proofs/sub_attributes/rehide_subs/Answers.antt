use Rattle.std.proofs.Common.{◌≡◌, length, refl, arith}
use Rattle.roam_crypto.specs.Hiding.{Key}
use Rattle.roam_crypto.specs.HidingKeys.{password_key}
use Rattle.roam_crypto.specs.SaltedFunctions.{sub_attribute_anew}
use Rattle.roam_crypto.proofs.InPlaceLemmas.{Always, always_all, underway_start, can_next, underway_step, underway_done}
use Rattle.roam_crypto.proofs.sub_attributes.rehide_subs.Goals as goal

pub loop-at-init : goal.loop-at-init
loop-at-init c = λ subs spelt. underway_start _ _ subs c.args.octets.now spelt (always_all subs)

pub bounds-octets-at : goal.bounds-octets-at
bounds-octets-at c =
    let h = c.loop-at.invariant c.requires.0 c.requires.1 in
    let next = can_next _ _ _ c.loop-at.octets c.loop-at.at h c.loop-at-test.true in
    omega (arith, next.size, next.within)

-- the Length that is read is that of the next sub-attribute
pub rehide_sub_attribute-requires-clause-in_order : goal.rehide_sub_attribute-requires-clause-in_order
rehide_sub_attribute-requires-clause-in_order c =
    let h = c.loop-at.invariant c.requires.0 c.requires.1 in
    let next = can_next _ _ _ c.loop-at.octets c.loop-at.at h c.loop-at-test.true in
    omega (arith, next.size, c.from.ensures)

pub rehide_sub_attribute-requires-clause-inside : goal.rehide_sub_attribute-requires-clause-inside
rehide_sub_attribute-requires-clause-inside c =
    let h = c.loop-at.invariant c.requires.0 c.requires.1 in
    let next = can_next _ _ _ c.loop-at.octets c.loop-at.at h c.loop-at-test.true in
    omega (arith, next.within, c.from.ensures)

pub loop-at-preserved : goal.loop-at-preserved
loop-at-preserved c = λ subs spelt.
    let h = c.loop-at.invariant subs spelt in
    let same_length : length c.rehide_sub_attribute.new.octets ≡ length c.loop-at.octets = omega arith in
    let from : Key = password_key c.args.from in
    let to : Key = password_key c.args.to in
    underway_step (sub_attribute_anew from to c.args.vendor) Always subs c.loop-at.octets
    c.rehide_sub_attribute.new.octets c.loop-at.at c.from.result (λ a. refl) h c.loop-at-test.true c.from.ensures
    same_length c.rehide_sub_attribute.ensures

pub returns : goal.returns
returns c = λ subs spelt. underway_done _ _ subs c.loop-at.octets c.loop-at.at
    (c.loop-at.invariant subs spelt) c.loop-at-test.false
