use Rattle.std.proofs.Common.{◌≡◌, ◌≤◌, replicate, vec_len, vec_capacity}
use Rattle.roam_realm.specs.Rests.{awake}
use Rattle.roam_realm.proofs.realm_numbers.new_rests.Given as goal

-- so many are awake
abbrev pub invariant-loop-place : goal.invariant-loop-place
invariant-loop-place g l = record {
  count : vec_len l.rests ≡ l._place;
  room : l.count ≤ vec_capacity l.rests;
  awake : l.rests.items ≡ replicate l._place awake;
}
