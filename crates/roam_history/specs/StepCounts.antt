-- The number of steps that were recorded of all shards (ours).
use Rattle.std.specs.Prelude.{ℕ, List, length, sum_by}
use Rattle.roam_history.specs.Entries.{steps_in}
use Rattle.roam_history.specs.Fronts.{FrontView}

-- those that were let go of count too
abbrev pub count_of_steps : List FrontView → ℕ
count_of_steps fronts = sum_by (λ front. length (steps_in front.entries)) fronts
