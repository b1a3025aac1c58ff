use Rattle.std.proofs.Common.{arith}
use Rattle.roam_migrate.proofs.LinkPlaceLemmas.{is_first}
use Rattle.roam_migrate.proofs.MovedRestLemmas.{all_rest, none_rest, one_rests}
use Rattle.roam_migrate.proofs.rests.move_rests.Goals as goal

pub loop-place-init : goal.loop-place-init
loop-place-init g c =
    none_rest c.args.old.now c.args.new.now c.args.before.now c.args.after.now.items c.requires

pub link_to_end-requires-clause-end : goal.link_to_end-requires-clause-end
link_to_end-requires-clause-end g c = omega (arith, c.loop-place.invariant.count)

-- a realm has an outgoing socket
pub link_to_end-requires-clause-out : goal.link_to_end-requires-clause-out
link_to_end-requires-clause-out g c = omega (arith, c.out_count-outs.ensures.some, c.out_count-outs.ensures.count)

pub rest_then-requires-clause-link : goal.rest_then-requires-clause-link
rest_then-requires-clause-link g c = c.link_to_end.ensures.link

pub rest_then-requires-clause-server : goal.rest_then-requires-clause-server
rest_then-requires-clause-server g c = omega (arith, c.loop-place.invariant.count, c.link_to_end.ensures.place)

pub loop-place-preserved : goal.loop-place-preserved
loop-place-preserved g c =
    one_rests c.args.old.now c.args.new.now c.args.before.now c.loop-place.after.items c.loop-place.place
    c.link_to_end.result c.rest_then.result c.loop-place.invariant (omega (arith, c.loop-place.invariant.count))
    (is_first c.args.new.now c.link_to_end.result c.link_to_end.ensures.link c.link_to_end.ensures.out)
    c.link_to_end.ensures.place c.rest_then.ensures

pub returns : goal.returns
returns g c =
    all_rest c.args.old.now c.args.new.now c.args.before.now c.loop-place.after.items c.loop-place.place
    c.loop-place.invariant (omega (arith, c.loop-place.invariant.count))
