use Rattle.std.proofs.Common.{Err}
use Rattle.roam_history.specs.Shown.{recorded, shown_receipts, whole_of}
use Rattle.roam_history.proofs.AuditLemmas.{decided, audits_seats, audits_receipts}
use Rattle.roam_history.proofs.report.Report.audit.Goals as goal

-- the seats agree with every shard, so what is found of the receipts is found
pub returns-in-Ok : goal.returns-in-Ok
returns-in-Ok g c =
    let steps = recorded c.args.self.now in
    let whole = whole_of c.args.self.now in
    let seats = c.args.seats.now in
    let receipts = shown_receipts c.args.receipts.now in
    let found = c.check_receipts.result in
    let one =
    decided steps whole seats receipts found
    (audits_receipts steps whole seats receipts found c.in-Ok.ensures c.check_receipts.ensures) in
    record { ok = one.ok; seats = one.uneven; receipt = one.wrong }

-- they don't, and that alone is found
pub returns-in-Err : goal.returns-in-Err
returns-in-Err g c =
    let steps = recorded c.args.self.now in
    let whole = whole_of c.args.self.now in
    let seats = c.args.seats.now in
    let receipts = shown_receipts c.args.receipts.now in
    let one =
    decided steps whole seats receipts (Err c.in-Err.fault)
    (audits_seats steps whole seats receipts c.in-Err.fault c.in-Err.ensures) in
    record { ok = one.ok; seats = one.uneven; receipt = one.wrong }
