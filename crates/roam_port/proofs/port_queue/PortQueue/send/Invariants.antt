use Rattle.std.proofs.Common.{◌≡◌, ◌+◌, length}
use Rattle.roam_port.specs.PortQueue.{HandsOver}
use Rattle.roam_port.specs.declared.port_queue.Standing.TheVariants as standing
use Rattle.roam_port.proofs.port_queue.PortQueue.send.Given as goal

abbrev pub invariant-loop-gone : goal.invariant-loop-gone
invariant-loop-gone g l = record {
  handed : HandsOver g.P.Port.hands l.fn.port l.port l.fn.self.waiting.items l.self.waiting.items
      l.fn.account l.account l.gone;
  left : l.gone + length l.self.waiting.items ≡ l.count;
  listed : l.self.standing ≡ standing.Listed;
  share : l.self.share ≡ l.fn.self.share;
}
