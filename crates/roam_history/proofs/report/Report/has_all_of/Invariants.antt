use Rattle.std.proofs.Common.{ℕ, ◌<◌}
use Rattle.roam_history.specs.Audit.{Begins}
use Rattle.roam_history.specs.Seats.{front_of}
use Rattle.roam_history.specs.Shown.{whole_of}
use Rattle.roam_history.proofs.report.Report.has_all_of.Given as goal

abbrev pub invariant-loop-shard : goal.invariant-loop-shard
invariant-loop-shard g l = (k : ℕ) → k < l.shard → Begins (front_of l.seat k) (whole_of l.self k)
