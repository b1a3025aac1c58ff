-- What the audit said of the slice holds of the seats.
use Rattle.std.proofs.Common.{List, subst, sym}
use Rattle.roam_history.specs.Audit.{IsPassed}
use Rattle.roam_history.specs.Seats.{SeatView}
use Rattle.roam_history.specs.Shown.{recorded, whole_of}
use Rattle.roam_history.proofs.AuditLemmas.{not_passed}
use Rattle.roam_history.proofs.report.Report.audited.Goals as goal

pub invariant_of-result : goal.invariant_of-result
invariant_of-result g c =
    let is = c.as_slice.ensures.value in
    let passed = subst (λ (l : List SeatView). IsPassed (recorded c.args.self) g.N.Opened.opening.config.shards
    (whole_of c.args.self) l) is c.in-Ok.ensures in
    record { agree = passed.agree; begun = passed.begun }

pub returns-in-Err-clause-ok : goal.returns-in-Err-clause-ok
returns-in-Err-clause-ok g c = (
  λ yes. absurd (cc),
  λ passed.
      let is = sym c.as_slice.ensures.value in
      let shards = g.N.Opened.opening.config.shards in
      let of = subst (λ (l : List SeatView). IsPassed (recorded c.args.self) shards (whole_of c.args.self) l) is
      passed in
      absurd (not_passed (recorded c.args.self) shards (whole_of c.args.self) c.as_slice.result.now c.in-Err.fault
      c.in-Err.ensures of),
)
