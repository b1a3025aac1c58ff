use Rattle.std.proofs.Common.{◌≡◌, length, vec_len, arith}
use Rattle.roam_sim.proofs.SimulationLemmas.{none_lost, some_lost}
use Rattle.roam_sim.proofs.simulation.print_outcome.Goals as goal

-- No event was lost.
pub returns-then-is_empty-clause-all : goal.returns-then-is_empty-clause-all
returns-then-is_empty-clause-all g c =
    let lost = c.args.outcome.now.lost in
    let len : vec_len lost ≡ length lost.items = omega (arith, lost.ok.0) in
    none_lost lost.items (vec_len lost) c.is_empty.result len c.is_empty.ensures c.if-is_empty.true

-- Some events were lost.
pub returns-else-is_empty-clause-some_lost : goal.returns-else-is_empty-clause-some_lost
returns-else-is_empty-clause-some_lost g c = λ _.
    let lost = c.args.outcome.now.lost in
    let len : vec_len lost ≡ length lost.items = omega (arith, lost.ok.0) in
    some_lost lost.items (vec_len lost) c.is_empty.result len c.is_empty.ensures c.if-is_empty.false
