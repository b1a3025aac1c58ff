-- One shard more.
use borrow.Author.Count.{below_more}
use Rattle.roam_history.specs.Audit.{Begins}
use Rattle.roam_history.specs.Seats.{front_of}
use Rattle.roam_history.specs.Shown.{whole_of}
use Rattle.roam_history.proofs.PrefixLemmas.{prefix_begins}
use Rattle.roam_history.proofs.report.Report.has_all_of.Goals as goal

pub loop-shard-preserved : goal.loop-shard-preserved
loop-shard-preserved g c =
    let seat = c.args.seat.now in
    let report = c.args.self.now in
    let shard = c.loop-shard.shard in
    below_more (λ k. Begins (front_of seat k) (whole_of report k)) shard c.loop-shard.invariant
    (prefix_begins (front_of seat shard) (whole_of report shard) c.has_seen.ensures)
