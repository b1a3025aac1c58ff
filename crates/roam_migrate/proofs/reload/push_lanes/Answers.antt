use Rattle.std.proofs.Common.{◌∙◌, arith}
use Rattle.roam_migrate.proofs.ReloadLemmas.{one_more}
use Rattle.roam_migrate.proofs.reload.push_lanes.Goals as goal

pub loop-place-preserved : goal.loop-place-preserved
loop-place-preserved g c =
    let old = c.args.lanes.now.items in
    let settings = c.args.settings.now in
    let more = one_more settings c.loop-place.place old c.loop-place.lanes.items c.new.result (omega arith)
    (c.new.ensures.tag ∙ c.tag_of.ensures) c.new.ensures.cursor c.new.ensures.free c.loop-place.invariant.more in
    record {
      more = rw c.push_reserved.ensures.items more;
      room = omega arith;
      here = omega arith;
    }
