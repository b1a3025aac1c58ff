use Rattle.std.proofs.Common.{◌≡◌, [], replicate, vec_len}
use Rattle.roam_log.proofs.repeats.Repeats.new.Given as goal

-- as many empty rows as there were turns
abbrev pub invariant-loop : goal.invariant-loop
invariant-loop l = record {
  rows : l.rows.items ≡ replicate l.counter [];
  count : vec_len l.rows ≡ l.counter;
}
