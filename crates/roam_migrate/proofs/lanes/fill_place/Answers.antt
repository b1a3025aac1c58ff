use Rattle.roam_migrate.proofs.MovingLemmas.{one_goes_by, one_left}
use Rattle.roam_migrate.proofs.lanes.fill_place.Goals as goal

-- its lane goes there
pub returns-in-Some : goal.returns-in-Some
returns-in-Some g c = λ first count own h.
    one_goes_by c.args.old.now c.args.new.now first c.args.before.now.items c.args.after.now.items c.requires.servers
    count c.link_at.result c.link_at.ensures.link c.args.place c.link_at.ensures.place h c.in-Some.from own
    c.in-Some.ensures.some c.move_lane.new.after c.move_lane.new.before c.index_mut.result.now c.tag_of.result
    c.index_mut.ensures.value c.tag_of.ensures c.move_lane.ensures.after

-- it had none
pub returns-in-None : goal.returns-in-None
returns-in-None g c = λ first count own h.
    one_left c.args.old.now c.args.new.now first c.args.before.now.items c.args.after.now.items c.requires.servers
    count c.link_at.result c.link_at.ensures.link c.args.place c.link_at.ensures.place h c.in-None.ensures.none
