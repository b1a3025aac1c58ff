-- One more octet was written.
use Rattle.std.proofs.Common.{sym, arith, rules}
use Rattle.std.proofs.Output.{has_written_append, has_written_of_eq}
use Rattle.roam_cli.proofs.EscapedLemmas.{escaped_next}
use Rattle.roam_cli.proofs.escaped.EscapedDisplay.fmt.Goals as goal

pub loop-octet-preserved : goal.loop-octet-preserved
loop-octet-preserved g c = λ plain.
    has_written_of_eq _ _ _ _ _
    (sym (escaped_next c.args.self.now.0.now c.loop-octet.octet-index (omega (arith, c.loop-octet-test.true))))
    (has_written_append _ _ _ _ _ _ (c.loop-octet.invariant plain) (search rules))
