use Rattle.std.proofs.Common.{◌∙◌, sym}
use Rattle.roam_log.proofs.PlainLemmas.{all-plain}
use Rattle.roam_log.proofs.exchange_line.push_octets.Goals as goal

pub returns-then-are_plain : goal.returns-then-are_plain
returns-then-are_plain c =
    rw (all-plain c.args.value.now (sym c.are_plain.ensures ∙ c.if-are_plain.true)) c.push.ensures
