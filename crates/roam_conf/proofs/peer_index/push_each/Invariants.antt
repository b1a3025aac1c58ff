use Rattle.std.proofs.Common.{◌≡◌, ◌++◌, replicate}
use Rattle.roam_conf.proofs.peer_index.push_each.Given as goal

-- what was pushed so far
abbrev pub invariant-loop : goal.invariant-loop
invariant-loop l = l.places.items ≡ l.initial.places.items ++ replicate l.counter l.initial.place
