-- One worker after the other.
use Rattle.std.proofs.Common.{◌<◌, arith, length}
use Rattle.roam_port.proofs.ListedLemmas.{get-within}
use Rattle.roam_workers.proofs.HandedLemmas.{none_more, worked_handed}
use Rattle.roam_workers.proofs.context.WorkerContext.hand_all.Goals as goal

pub loop-worker-preserved : goal.loop-worker-preserved
loop-worker-preserved g c =
    let inv = c.loop-worker.invariant in
    let lists = c.loop-worker.jobs.for_others in
    let size = lists.ok.0 in
    let same = inv.size in
    let test = c.loop-worker-test.true in
    let last = c.loop-worker.auto.worker-end in
    let len = c.len-worker-end.ensures in
    let within : c.loop-worker.worker < length lists.items = omega arith in
    record {
      worked = worked_handed _ _ (λ j. j.job) _ _ _ _ _ _ inv.worked c.hand_to-handed_on.ensures.handed;
      size = inv.size;
      none = none_more c.loop-worker.worker lists.items (λ q. q.items) c.hand_to-handed_on.new.jobs within
          c.hand_to-handed_on.ensures.none_left inv.none;
    }

pub returns-clause-none_left : goal.returns-clause-none_left
returns-clause-none_left g c = λ k q at.
    let inv = c.loop-worker.invariant in
    let lists = c.loop-worker.jobs.for_others in
    let size = lists.ok.0 in
    let same = inv.size in
    let test = c.loop-worker-test.false in
    let last = c.loop-worker.auto.worker-end in
    let len = c.len-worker-end.ensures in
    let there = get-within lists.items k q at in
    let before : k < c.loop-worker.worker = omega arith in
    inv.none k q before at
