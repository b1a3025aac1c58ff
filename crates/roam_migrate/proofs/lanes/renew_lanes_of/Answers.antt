use Rattle.std.proofs.Common.{◌<◌, ◌≤◌, arith, length, refl, rules}
use Rattle.roam_migrate.proofs.PeerLanesLemmas.{all_renewed_to, none_renewed_to, one_renewed_at}
use Rattle.roam_migrate.proofs.lanes.renew_lanes_of.Goals as goal

-- none began anew
pub loop-out-init : goal.loop-out-init
loop-out-init g c = record {
  renewed = none_renewed_to c.args.old.now c.args.new.now c.args.peer c.args.lanes.now.items;
  capacity = refl;
}

pub place_of-place-requires : goal.place_of-place-requires
place_of-place-requires g c =
    (c.requires.peer, omega (arith, c.loop-out-test.true, c.out_count-out-end.ensures.count))

-- one more does
pub loop-out-preserved : goal.loop-out-preserved
loop-out-preserved g c =
    let old = c.args.old.now in
    let count = c.out_count-out-end.ensures.count in
    let way : c.loop-out.out < length old.realm.out = omega (arith, c.loop-out-test.true, count) in
    record {
      renewed = one_renewed_at old c.args.new.now c.args.peer c.loop-out.out c.place_of-place.result c.tag_of.result
          c.args.lanes.now.items c.loop-out.lanes.items c.new.result c.requires.stand c.requires.count
          c.requires.peer way c.requires.other c.place_of-place.ensures.place c.tag_of.ensures c.new.ensures.tag
          c.new.ensures.cursor c.new.ensures.free c.loop-out.invariant.renewed;
      capacity = search rules;
    }

-- all did
pub returns-clause-renewed : goal.returns-clause-renewed
returns-clause-renewed g c =
    let old = c.args.old.now in
    let count = c.out_count-out-end.ensures.count in
    let past : length old.realm.out ≤ c.loop-out.out = omega (arith, c.loop-out-test.false, count) in
    all_renewed_to old c.args.new.now c.args.peer c.loop-out.out c.args.lanes.now.items c.loop-out.lanes.items past
    c.loop-out.invariant.renewed
