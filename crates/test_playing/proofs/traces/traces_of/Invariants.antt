use Rattle.std.proofs.Common.{◌≡◌}
use Rattle.std.specs.List.{All}
use Rattle.roam_conf.specs.Shown.{shown}
use Rattle.test_playing.proofs.traces.traces_of.Given as goal

-- the traces so far are of this configuration
abbrev pub invariant-loop-number : goal.invariant-loop-number
invariant-loop-number g l = All (λ t. t.opening.config ≡ shown l.config) l.traces.items
