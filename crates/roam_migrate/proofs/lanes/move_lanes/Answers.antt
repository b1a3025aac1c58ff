use Rattle.std.proofs.Common.{arith}
use Rattle.roam_migrate.proofs.MovingLemmas.{all_moved, none_moved}
use Rattle.roam_migrate.proofs.lanes.move_lanes.Goals as goal

pub loop-place-init : goal.loop-place-init
loop-place-init g c =
    none_moved c.args.old.now c.args.new.now c.args.before.now.items c.args.after.now.items c.requires.count
    c.requires.fresh

pub fill_place-requires-clause-before : goal.fill_place-requires-clause-before
fill_place-requires-clause-before g c = c.loop-place.invariant.count_before

pub fill_place-requires-clause-after : goal.fill_place-requires-clause-after
fill_place-requires-clause-after g c = c.loop-place.invariant.count_after

pub loop-place-preserved : goal.loop-place-preserved
loop-place-preserved g c =
    c.fill_place.ensures c.args.before.now.items c.requires.count c.requires.lanes c.loop-place.invariant

pub returns : goal.returns
returns g c =
    all_moved c.args.old.now c.args.new.now c.args.before.now.items c.loop-place.before.items c.loop-place.after.items
    c.loop-place.place c.loop-place.invariant (omega (arith, c.loop-place.invariant.count_after))
