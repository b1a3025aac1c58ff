use Rattle.std.proofs.Common.{◌≡◌, vec_len}
use Rattle.roam_history.proofs.blanks.Blanks.new.Given as goal

abbrev pub invariant-loop : goal.invariant-loop
invariant-loop g l = vec_len l.blanks ≡ l.counter
