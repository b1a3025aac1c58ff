use Rattle.std.proofs.Common.{◌≡◌, drop}
use Rattle.roam_conf.specs.Duplicates.{is_among}
use Rattle.roam_reload.proofs.kind.is_among.Given as goal

abbrev pub invariant-loop-other : goal.invariant-loop-other
invariant-loop-other l =
    is_among (drop l.other-index l.endpoints) l.endpoint ≡ is_among l.fn.endpoints l.fn.endpoint
