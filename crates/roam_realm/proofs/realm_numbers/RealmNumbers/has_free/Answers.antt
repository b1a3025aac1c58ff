use Rattle.std.proofs.Common.{◌<◌, ◌∙◌, ap, arith, length}
use Rattle.roam_realm.specs.Sound.{has_free}
use Rattle.roam_realm.proofs.LinkLaneLemmas.{free-not_full, lane-read}
use Rattle.roam_realm.proofs.realm_numbers.RealmNumbers.has_free.Goals as goal

-- the lane that is looked at is the link's
pub returns : goal.returns
returns g c =
    let lanes = c.args.self.now.lanes.items in
    let place = c.place_of.result in
    let lane = c.index.result.now in
    let within : place < length lanes = omega (arith, c.place_of.ensures.below, c.requires.count) in
    let at = c.place_of.ensures.place in
    let lane_is = lane-read c.args.settings.now lanes c.args.link place lane at within c.index.ensures in
    free-not_full lane c.is_full.result c.is_full.ensures ∙ ap has_free lane_is
