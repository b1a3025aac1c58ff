use Rattle.std.proofs.Common.{◌≡◌, ◌++◌, replicate}
use Rattle.std.specs.Prelude.{vec_capacity}
use Rattle.roam_wire.proofs.writing.append_zeros.Given as goal

-- so many zeros are appended, and the room is the same
abbrev pub invariant-loop-k : goal.invariant-loop-k
invariant-loop-k g l = record {
  items : l.out.items ≡ l.initial.out.items ++ replicate l.k 0;
  capacity : vec_capacity l.out ≡ vec_capacity l.initial.out;
}
