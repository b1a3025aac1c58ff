use Rattle.std.proofs.Common.{◌≡◌, ◌-◌, ◌^◌, min, take}
use Rattle.roam_history.specs.StepCounts.{count_of_steps}
use Rattle.roam_history.proofs.report.count_in.Given as goal

abbrev pub invariant-loop-front : goal.invariant-loop-front
invariant-loop-front g l = l.count ≡ min (count_of_steps (take l.front-index l.fronts)) (2 ^ 64 - 1)
