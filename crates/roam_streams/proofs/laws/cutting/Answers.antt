use Rattle.std.proofs.Common.{sym, ◌∙◌}
use Rattle.roam_streams.proofs.CuttingLemmas.{one_cutting}
use Rattle.roam_streams.proofs.laws.cutting.Goals as goal

pub returns-clause-one : goal.returns-clause-one
returns-clause-one c octets packets others rest other a b =
    one_cutting packets others rest other (sym a.whole ∙ b.whole) a.each b.each a.ends b.ends
