use Rattle.roam_sim.proofs.FieldLemmas.{even_digits}
use Rattle.roam_sim.proofs.reading.is_decodable.Goals as goal

pub returns-then-text-eq0 : goal.returns-then-text-eq0
returns-then-text-eq0 c =
    even_digits c.args.text.now c.are_digits.result c.if-text-eq0.true
    (rw c.as_bytes.ensures.value at c.are_digits.ensures)
