use Rattle.std.proofs.Common.{refl}
use Rattle.roam_rules.proofs.book.Book.tick.Goals as goal

-- the done ones go
pub returns-then-has_only_done_due-clause-turn : goal.returns-then-has_only_done_due-clause-turn
returns-then-has_only_done_due-clause-turn g c =
    rw (c.let_go.ensures.turn)
    (record { packets = c.nothing.ensures.outs; refusal = c.nothing.ensures.refusal; state = refl })
