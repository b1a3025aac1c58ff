use Rattle.std.proofs.Common.{◌≡◌, vec_len}
use Rattle.roam_port.specs.Queues.{AreMore}
use Rattle.roam_port.specs.Sharing.{share_of}
use Rattle.roam_port.proofs.queues.add_queues.Given as goal

abbrev pub invariant-loop : goal.invariant-loop
invariant-loop g l = record {
  count : vec_len l.queues ≡ l.counter;
  more : AreMore (share_of l.ports) l.fn.queues.items l.queues.items;
}
