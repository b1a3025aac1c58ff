-- One seat more.
use Rattle.std.proofs.Common.{subst}
use Rattle.std.specs.List.{All}
use Rattle.std.proofs.lemmas.List.{take_all}
use Rattle.std.proofs.lemmas.List.Elements.{All-more}
use Rattle.roam_history.specs.Audit.{HasSeen}
use Rattle.roam_history.specs.Shown.{whole_of}
use Rattle.roam_history.proofs.report.Report.has_all.Goals as goal

pub loop-seat-preserved : goal.loop-seat-preserved
loop-seat-preserved g c =
    let seats = c.args.seats.now in
    let i = c.loop-seat.seat-index in
    let P = HasSeen g.N.Opened.opening.config.shards (whole_of c.args.self.now) in
    All-more P seats i c.seat-item.result c.loop-seat-test.true c.loop-seat.invariant
    (subst P c.seat-item.is c.has_all_of.ensures)

pub returns : goal.returns
returns g c =
    let seats = c.args.seats.now in
    let P = HasSeen g.N.Opened.opening.config.shards (whole_of c.args.self.now) in
    subst (All P) (take_all c.loop-seat.seat-index seats c.loop-seat-test.false) c.loop-seat.invariant
