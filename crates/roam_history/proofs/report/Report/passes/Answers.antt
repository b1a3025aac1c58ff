-- What is found of the seats.
use Rattle.roam_history.specs.Shown.{recorded, whole_of}
use Rattle.roam_history.proofs.AuditLemmas.{first_fault}
use Rattle.roam_history.proofs.report.Report.passes.Goals as goal

pub returns-in-Err : goal.returns-in-Err
returns-in-Err g c =
    first_fault (recorded c.args.self.now) (whole_of c.args.self.now) c.args.seats.now c.in-Err.fault c.in-Err.ensures
