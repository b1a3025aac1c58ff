use Rattle.std.proofs.Common.{◌≡◌, ◌-◌, ◌*◌, ◌≤◌, ◌^◌, take}
use Rattle.roam_history.specs.Audit.{calls_of}
use Rattle.roam_history.proofs.seat_check.calls_of.Given as goal

abbrev pub invariant-loop-seat : goal.invariant-loop-seat
invariant-loop-seat g l =
    (l.calls ≡ calls_of (take l.seat-index l.seats) l.shard)
    × (l.calls ≤ l.seat-index * (2 ^ 64 - 1))
