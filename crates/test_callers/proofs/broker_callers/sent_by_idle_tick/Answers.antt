-- Where nothing is pending there are no packets.
use Rattle.test_callers.proofs.IdleLemmas.{sends_none}
use Rattle.test_callers.proofs.broker_callers.sent_by_idle_tick.Goals as goal

pub returns-in-Ok : goal.returns-in-Ok
returns-in-Ok g c =
    c.one_if_any.ensures (sends_none c.in-Ok.answer _ _ _ _ c.requires c.in-Ok.ensures.turn)
