use Rattle.std.proofs.Common.{◌≡◌, ◌++◌, take}
use Rattle.std.specs.Prelude.{vec_capacity}
use Rattle.roam_wire.proofs.writing.append_octets.Given as goal

-- the octets so far are appended, and the room is the same
abbrev pub invariant-loop-octet : goal.invariant-loop-octet
invariant-loop-octet g l = record {
  items : l.out.items ≡ l.initial.out.items ++ take l.octet-index l.octets;
  capacity : vec_capacity l.out ≡ vec_capacity l.initial.out;
}
