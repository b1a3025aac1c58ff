use Rattle.std.proofs.Common.{◌≡◌, ◌-◌, ◌*◌, ◌≤◌, ◌^◌, take}
use Rattle.roam_history.specs.Audit.{times_of_all}
use Rattle.roam_history.proofs.seat_check.times_of_all.Given as goal

abbrev pub invariant-loop-seat : goal.invariant-loop-seat
invariant-loop-seat g l =
    (l.times ≡ times_of_all (take l.seat-index l.seats) l.shard)
    × (l.times ≤ l.seat-index * (2 ^ 64 - 1))
