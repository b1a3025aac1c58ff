use Rattle.std.proofs.Common.{take}
use Rattle.roam_history.specs.Shown.{recorded, shown_receipts}
use Rattle.roam_history.specs.Audit.{AreRight}
use Rattle.roam_history.proofs.report.Report.check_receipts.Given as goal

abbrev pub invariant-loop-place : goal.invariant-loop-place
invariant-loop-place g l = AreRight (recorded l.self) (shown_receipts (take l.place l.receipts))
