use Rattle.std.proofs.Common.{◌≡◌, length, arith}
use Rattle.roam_crypto.specs.Hiding.{Key}
use Rattle.roam_crypto.specs.HidingKeys.{password_key}
use Rattle.roam_crypto.specs.PacketAnew.{attribute_anew, CanBeHiddenAnew}
use Rattle.roam_crypto.proofs.InPlaceLemmas.{underway_start, can_next, underway_step, underway_done}
use Rattle.roam_crypto.proofs.PacketAnewLemmas.{kind-anew}
use Rattle.roam_crypto.proofs.packet_values.rehide_attributes.Goals as goal

pub loop-at-init : goal.loop-at-init
loop-at-init c = λ all spelt can. underway_start _ _ all c.args.octets.now spelt can

pub bounds-octets-at : goal.bounds-octets-at
bounds-octets-at c =
    let h = c.loop-at.invariant c.requires.0 c.requires.1 c.requires.2 in
    let next = can_next _ _ _ c.loop-at.octets c.loop-at.at h c.loop-at-test.true in
    omega (arith, next.size, next.within)

-- the Length that is read is that of the next attribute
pub rehide_attribute-requires-clause-in_order : goal.rehide_attribute-requires-clause-in_order
rehide_attribute-requires-clause-in_order c =
    let h = c.loop-at.invariant c.requires.0 c.requires.1 c.requires.2 in
    let next = can_next _ _ _ c.loop-at.octets c.loop-at.at h c.loop-at-test.true in
    omega (arith, next.size, c.from.ensures)

pub rehide_attribute-requires-clause-inside : goal.rehide_attribute-requires-clause-inside
rehide_attribute-requires-clause-inside c =
    let h = c.loop-at.invariant c.requires.0 c.requires.1 c.requires.2 in
    let next = can_next _ _ _ c.loop-at.octets c.loop-at.at h c.loop-at-test.true in
    omega (arith, next.within, c.from.ensures)

pub rehide_attribute-requires-clause-can_be : goal.rehide_attribute-requires-clause-can_be
rehide_attribute-requires-clause-can_be c =
    let h = c.loop-at.invariant c.requires.0 c.requires.1 c.requires.2 in
    let next = can_next _ _ _ c.loop-at.octets c.loop-at.at h c.loop-at-test.true in
    rw c.from.ensures next.can

pub loop-at-preserved : goal.loop-at-preserved
loop-at-preserved c = λ all spelt can.
    let h = c.loop-at.invariant all spelt can in
    let same_length : length c.rehide_attribute.new.octets ≡ length c.loop-at.octets = omega arith in
    let from : Key = password_key c.args.from in
    let to : Key = password_key c.args.to in
    underway_step (attribute_anew c.args.hidden from to) (CanBeHiddenAnew c.args.hidden) all c.loop-at.octets
    c.rehide_attribute.new.octets c.loop-at.at c.from.result (kind-anew c.args.hidden from to) h
    c.loop-at-test.true c.from.ensures same_length c.rehide_attribute.ensures

pub returns : goal.returns
returns c = λ all spelt can. underway_done _ _ all c.loop-at.octets c.loop-at.at
    (c.loop-at.invariant all spelt can) c.loop-at-test.false
