-- A tick, and what it gives is sent.
use Rattle.std.proofs.Common.{inl, inr, refl}
use Rattle.roam_workers.proofs.WorkLemmas.{sent_on, worked_more, worked_none}
use Rattle.roam_workers.proofs.context.WorkerContext.tick_once.Goals as goal

pub returns-then-is_more : goal.returns-then-is_more
returns-then-is_more g c =
    let o = g.N.Opened.opening in
    let ticked = worked_more _ _ _ _ (worked_none o _) (inr (inl (_, _, _, c.tick-is_more.ensures.ticks))) in
    sent_on o _ _ _ _ _ _ _ ticked refl refl c.send.ensures

pub returns-else-is_more : goal.returns-else-is_more
returns-else-is_more g c =
    let o = g.N.Opened.opening in
    let ticked = worked_more _ _ _ _ (worked_none o _) (inr (inl (_, _, _, c.tick-is_more.ensures.ticks))) in
    sent_on o _ _ _ _ _ _ _ ticked refl refl c.send.ensures
