use Rattle.std.proofs.Common.{◌≡◌, take}
use Rattle.roam_history.proofs.seat.copies.Given as goal

abbrev pub invariant-loop-front : goal.invariant-loop-front
invariant-loop-front g l = l.copies.items ≡ take l.front-index l.fronts
