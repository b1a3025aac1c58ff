use Rattle.std.proofs.Common.{arith}
use Rattle.std.proofs.lemmas.List.Sums.{sum_by_more}
use Rattle.roam_history.specs.Seats.{times_of}
use Rattle.roam_history.proofs.seat_check.times_of_all.Goals as goal

-- fewer than 2^64 numbers below 2^64 add up to less than 2^128
pub overflow_add-times : goal.overflow_add-times
overflow_add-times g c = omega arith

-- one seat more
pub loop-seat-preserved : goal.loop-seat-preserved
loop-seat-preserved g c =
    let seats = c.args.seats.now in
    let more =
    sum_by_more (λ seat. times_of seat.times c.args.shard) seats c.loop-seat.seat-index
    c.seat-item.result (omega arith) in
    (cc, omega arith)
