use Rattle.std.proofs.Common.{arith, ◌∙◌}
use Rattle.roam_port.proofs.QueueLemmas.{all_left, one_more}
use Rattle.roam_port.proofs.port_queue.PortQueue.send.Goals as goal

-- One more is gone.
pub loop-gone-preserved : goal.loop-gone-preserved
loop-gone-preserved g c =
    let so_far = c.loop-gone.invariant.handed in
    let more = one_more g.P.Port.hands c.args.port.now c.loop-gone.port c.hand_oldest.new.port
    c.args.self.now.waiting.items c.loop-gone.self.waiting.items c.hand_oldest.new.self.waiting.items
    c.args.account.now c.loop-gone.account c.hand_oldest.new.account c.loop-gone.gone so_far
    c.hand_oldest.result c.if-not-hand_oldest.false c.hand_oldest.ensures.handed in
    let before = all_left _ _ _ _ _ _ _ _ so_far in
    let after = all_left _ _ _ _ _ _ _ _ more in
    let left = c.loop-gone.invariant.left in
    record {
      handed = more;
      left = omega arith;
      listed = c.hand_oldest.ensures.standing ∙ c.loop-gone.invariant.listed;
      share = c.hand_oldest.ensures.share ∙ c.loop-gone.invariant.share;
    }
