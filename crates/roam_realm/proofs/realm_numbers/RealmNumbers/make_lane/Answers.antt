use Rattle.std.proofs.Common.{◌<◌, length, arith}
use Rattle.roam_realm.proofs.LinkLaneLemmas.{cursors-made, lanes-made}
use Rattle.roam_realm.proofs.realm_numbers.RealmNumbers.make_lane.Goals as goal

-- only the lane's memory is new
pub returns-clause-cursors : goal.returns-clause-cursors
returns-clause-cursors g c =
    cursors-made c.args.self.now.lanes.items c.place_of.result c.index_mut-lane.result.now
    c.make.new.self c.index_mut-lane.ensures.value c.in_ok-make.ensures.ok

pub returns-clause-lanes : goal.returns-clause-lanes
returns-clause-lanes g c own =
    let lanes = c.args.self.now.lanes.items in
    let place = c.place_of.result in
    let within : place < length lanes = omega (arith, c.place_of.ensures.below, c.requires.count) in
    lanes-made c.args.settings.now lanes place c.index_mut-lane.result.now c.make.new.self within
    c.index_mut-lane.ensures.value c.in_ok-make.ensures.ok own
