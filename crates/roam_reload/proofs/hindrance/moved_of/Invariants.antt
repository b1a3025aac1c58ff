use Rattle.std.proofs.Common.{◌≡◌, drop}
use Rattle.std.specs.List.{find}
use Rattle.roam_conf.specs.Shown.{shown}
use Rattle.roam_reload.specs.Moves.{is_moved}
use Rattle.roam_reload.proofs.hindrance.moved_of.Given as goal

abbrev pub invariant-loop-endpoint : goal.invariant-loop-endpoint
invariant-loop-endpoint l =
    find (is_moved (shown l.new) l.kind) (drop l.endpoint-index l.endpoints)
    ≡ find (is_moved (shown l.fn.new) l.fn.kind) l.fn.endpoints
