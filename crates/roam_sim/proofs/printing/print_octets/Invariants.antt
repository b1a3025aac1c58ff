use Rattle.std.proofs.Common.{◌≡◌}
use Rattle.std.specs.Slice.Iter.{chunks_rest, chunks_size}
use Rattle.roam_sim.proofs.PrintingLemmas.{IsPrinted}
use Rattle.roam_sim.proofs.printing.print_octets.Given as goal

abbrev pub invariant-loop-piece : goal.invariant-loop-piece
invariant-loop-piece g l =
    (goal.iterator-loop-piece g).can_next l.piece-iterator
    × (goal.iterator-loop-piece g).is_finite l.piece-iterator
    × (chunks_size l.piece-iterator ≡ 512)
    × IsPrinted l.fn.octets (chunks_rest l.piece-iterator) (g.W.Write.contents l.initial.writer)
    (g.W.Write.contents l.writer)
