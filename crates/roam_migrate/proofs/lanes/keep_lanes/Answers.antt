use Rattle.std.proofs.Common.{arith}
use Rattle.roam_migrate.proofs.EntriesOverLemmas.{no_fewer}
use Rattle.roam_migrate.proofs.KeptLaneLemmas.{keeps_moved}
use Rattle.roam_migrate.proofs.lanes.keep_lanes.Goals as goal

pub add_lanes-requires-clause-few : goal.add_lanes-requires-clause-few
add_lanes-requires-clause-few g c =
    let more = no_fewer c.args.old.now c.args.new.now c.requires.stand in
    omega (arith, c.renew_lanes.ensures.renewed.count, c.requires.count, more)

pub add_lanes-requires-clause-room : goal.add_lanes-requires-clause-room
add_lanes-requires-clause-room g c = omega (arith, c.renew_lanes.ensures.capacity, c.requires.room)

pub returns-clause-lanes : goal.returns-clause-lanes
returns-clause-lanes g c =
    keeps_moved c.args.old.now c.args.new.now c.args.changed.now c.args.numbers.now.lanes.items
    c.renew_lanes.new.lanes.items c.add_lanes.new.numbers.lanes.items c.requires.stand c.requires.index
    c.requires.changed c.requires.count c.requires.lanes c.renew_lanes.ensures.renewed c.add_lanes.ensures.more
