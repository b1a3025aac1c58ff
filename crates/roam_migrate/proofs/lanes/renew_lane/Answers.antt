use Rattle.roam_migrate.proofs.PeerLanesLemmas.{none_renewed}
use Rattle.roam_migrate.proofs.lanes.renew_lane.Goals as goal

pub renew_lanes_of-requires-clause-peer : goal.renew_lanes_of-requires-clause-peer
renew_lanes_of-requires-clause-peer g c = (c.is_renewed.ensures.yes c.if-is_renewed.true).0

pub renew_lanes_of-requires-clause-other : goal.renew_lanes_of-requires-clause-other
renew_lanes_of-requires-clause-other g c = (c.is_renewed.ensures.yes c.if-is_renewed.true).1

pub returns-else-is_renewed-clause-renewed : goal.returns-else-is_renewed-clause-renewed
returns-else-is_renewed-clause-renewed g c =
    none_renewed c.args.old.now c.args.new.now c.args.peer c.args.lanes.now.items
    (c.is_renewed.ensures.no c.if-is_renewed.false)
