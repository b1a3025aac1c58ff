use Rattle.std.proofs.Common.{◌≡◌, drop}
use Rattle.roam_conf.specs.Config.{suffix}
use Rattle.roam_conf.specs.Lookup.{owner_with, first_answer, after_dots}
use Rattle.roam_conf.specs.Shown.{shown}
use Rattle.roam_conf.proofs.config.Config.owner_of_lowered_suffix.Given as goal

-- the answer is that of the dots that are left
abbrev pub invariant-loop-i : goal.invariant-loop-i
invariant-loop-i l =
    first_answer (λ name. owner_with (shown l.self) (suffix name)) (after_dots (drop l.i l.text))
    ≡ first_answer (λ name. owner_with (shown l.fn.self) (suffix name)) (after_dots l.fn.text)
