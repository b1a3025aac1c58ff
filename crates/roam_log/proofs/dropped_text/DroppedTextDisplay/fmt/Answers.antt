-- The word that stands first is that of the cause.
use Rattle.std.proofs.Common.{append_assoc}
use Rattle.roam_log.proofs.dropped_text.DroppedTextDisplay.fmt.Goals as goal

pub returns-clause-writes : goal.returns-clause-writes
returns-clause-writes g c = rw (← c.cause_word-word.ensures) (simp append_assoc c.write.ensures.writes)
