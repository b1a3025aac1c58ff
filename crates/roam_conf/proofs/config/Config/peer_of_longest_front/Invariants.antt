use Rattle.std.proofs.Common.{◌≡◌, ◌-◌, length, map}
use Rattle.roam_conf.specs.Lookup.{first_answer}
use Rattle.roam_conf.specs.Shown.{shown}
use Rattle.roam_conf.specs.Targets.{begins, fronts, fronts_to, peer_with_nas}
use Rattle.roam_conf.proofs.config.Config.peer_of_longest_front.Given as goal

-- the answer is that of the fronts that are left
abbrev pub invariant-loop-i : goal.invariant-loop-i
invariant-loop-i l =
    first_answer (peer_with_nas (shown l.self).peers) (map begins (fronts_to (length l.identifier - l.i) l.identifier))
    ≡ first_answer (peer_with_nas (shown l.fn.self).peers) (map begins (fronts l.fn.identifier))
