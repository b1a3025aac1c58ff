-- One more that was left was counted.
use Rattle.std.proofs.Common.{arith}
use Rattle.roam_outgoing.specs.Counting.{counts_in}
use Rattle.roam_outgoing.proofs.CountingLemmas.{left-more}
use Rattle.roam_outgoing.proofs.counting.Counting.left.Goals as goal

pub loop-conversation-preserved : goal.loop-conversation-preserved
loop-conversation-preserved c =
    let more = left-more (counts_in c.args.self.now) c.args.left.now c.loop-conversation.conversation-index
    c.conversation-item.result (omega arith) in
    cc
