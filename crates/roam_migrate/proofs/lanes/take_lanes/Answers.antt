use Rattle.std.proofs.Common.{subst, sym}
use Rattle.roam_migrate.specs.Private.Moving.{AreMoved}
use Rattle.roam_migrate.proofs.lanes.take_lanes.Goals as goal

pub returns-clause-lanes : goal.returns-clause-lanes
returns-clause-lanes g c =
    subst (AreMoved c.args.old.now c.args.new.now c.args.numbers.now.lanes.items) (sym c.take_rests.ensures.lanes)
    c.move_lanes.ensures
