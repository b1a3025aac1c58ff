use Rattle.std.proofs.Common.{◌≡◌, drop}
use Rattle.std.specs.List.{list_any}
use Rattle.roam_conf.specs.Ways.{same_kind}
use Rattle.roam_conf.proofs.ways.is_reached_at.Given as goal

abbrev pub invariant-loop-out : goal.invariant-loop-out
invariant-loop-out l =
    list_any (λ out. same_kind out l.endpoint) (drop l.out-index l.outs)
    ≡ list_any (λ out. same_kind out l.fn.endpoint) l.fn.outs
