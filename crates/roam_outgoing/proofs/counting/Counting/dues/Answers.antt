-- What became of one more was counted.
use Rattle.std.proofs.Common.{arith}
use Rattle.roam_outgoing.specs.Counting.{counts_in}
use Rattle.roam_outgoing.proofs.CountingLemmas.{dues-more}
use Rattle.roam_outgoing.proofs.counting.Counting.dues.Goals as goal

pub loop-due-preserved : goal.loop-due-preserved
loop-due-preserved c =
    let more = dues-more (counts_in c.args.self.now) c.args.dues.now c.loop-due.due-index c.due-item.result
    (omega arith) in
    cc
