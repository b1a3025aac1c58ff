use Rattle.roam_migrate.proofs.MovingLemmas.{fresh_by}
use Rattle.roam_migrate.proofs.lanes.fresh_lanes.Goals as goal

pub returns-clause-lanes : goal.returns-clause-lanes
returns-clause-lanes g c =
    let lanes = c.in_ok-lanes.ensures in
    fresh_by c.args.new.now c.in_ok-lanes.lanes.items lanes.count lanes.cursors lanes.places lanes.lanes
