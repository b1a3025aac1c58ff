use Rattle.std.proofs.Common.{take}
use Rattle.std.specs.List.{All}
use Rattle.roam_history.specs.Audit.{HasSeen}
use Rattle.roam_history.specs.Shown.{whole_of}
use Rattle.roam_history.proofs.report.Report.has_all.Given as goal

abbrev pub invariant-loop-seat : goal.invariant-loop-seat
invariant-loop-seat g l = All (HasSeen g.N.Opened.opening.config.shards (whole_of l.self)) (take l.seat-index l.seats)
