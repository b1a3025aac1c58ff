use Rattle.std.proofs.Common.{◌≡◌, drop}
use Rattle.std.specs.Cmp.Lexicographic.{pointwise}
use Rattle.roam_conf.specs.Duplicates.{same_endpoint}
use Rattle.roam_reload.proofs.kept.has_same_outs.Given as goal

abbrev pub invariant-loop-place : goal.invariant-loop-place
invariant-loop-place l =
    pointwise same_endpoint (drop l.place l.old.out.items) (drop l.place l.new.out.items)
    ≡ pointwise same_endpoint l.fn.old.out.items l.fn.new.out.items
