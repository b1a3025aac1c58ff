use Rattle.std.proofs.Common.{◌≡◌, length, IsTrue, arith}
use Rattle.std.proofs.lemmas.List.{length-map}
use borrow.Author.Count.{below_more}
use Rattle.roam_history.specs.Shown.{all_in, recorded, whole_of}
use Rattle.roam_history.specs.Audit.{Agrees}
use Rattle.roam_history.proofs.report.Report.check_seats.Goals as goal

-- the seats agree with this shard, too
pub loop-shard-preserved : goal.loop-shard-preserved
loop-shard-preserved g c =
    let steps = recorded c.args.self.now in
    let agrees : IsTrue c.agrees.result = cc in
    below_more (Agrees steps (whole_of c.args.self.now) c.args.seats.now) c.loop-shard.shard
    c.loop-shard.invariant (c.agrees.ensures.0 agrees)

pub returns : goal.returns
returns g c = λ shard within.
    let fronts = c.args.self.now.fronts.items in
    let shards : length (recorded c.args.self.now) ≡ length fronts = length-map fronts all_in in
    c.loop-shard.invariant shard (omega arith)
