use Rattle.std.proofs.Common.{◌∙◌, get_or, refl}
use Rattle.std.proofs.lemmas.List.{get_or_default}
use Rattle.roam_migrate.proofs.RenewLemmas.{all_renewed, next_renewed, none_yet}
use Rattle.roam_migrate.proofs.lanes.renew_lanes.Goals as goal

pub loop-peer-init : goal.loop-peer-init
loop-peer-init g c = record {
  renewed = none_yet c.args.old.now c.args.new.now c.args.changed.now c.args.lanes.now.items;
  capacity = refl;
}

pub renew_lane-requires-clause-count : goal.renew_lane-requires-clause-count
renew_lane-requires-clause-count g c = c.loop-peer.invariant.renewed.count ∙ c.requires.count

pub loop-peer-preserved : goal.loop-peer-preserved
loop-peer-preserved g c =
    let changed = c.args.changed.now in
    let i = c.loop-peer.peer-index in
    let x = get_or changed i 0 in
    record {
      renewed = next_renewed c.args.old.now c.args.new.now changed i x c.args.lanes.now.items c.loop-peer.lanes.items
          c.renew_lane.new.lanes.items c.loop-peer-test.true (get_or_default changed i 0 x c.loop-peer-test.true)
          c.loop-peer.invariant.renewed c.renew_lane.ensures.renewed;
      capacity = c.renew_lane.ensures.capacity ∙ c.loop-peer.invariant.capacity;
    }

pub returns-clause-renewed : goal.returns-clause-renewed
returns-clause-renewed g c =
    all_renewed c.args.old.now c.args.new.now c.args.changed.now c.loop-peer.peer-index c.args.lanes.now.items
    c.loop-peer.lanes.items c.loop-peer-test.false c.loop-peer.invariant.renewed
