use Rattle.std.proofs.Common.{ℕ, ◌<◌}
use Rattle.roam_history.specs.Shown.{recorded, whole_of}
use Rattle.roam_history.specs.Audit.{Agrees}
use Rattle.roam_history.proofs.report.Report.check_seats.Given as goal

abbrev pub invariant-loop-shard : goal.invariant-loop-shard
invariant-loop-shard g l =
    (lower : ℕ) → lower < l.shard → Agrees (recorded l.self) (whole_of l.self) l.seats lower
