-- A tick was recorded, or nothing was due, or it was refused.
use Rattle.std.proofs.Common.{◌∙◌, ap, inl, inr}
use Rattle.roam_counters.specs.Arrivals.{tick_counts}
use Rattle.roam_counters.specs.OwnCounts.{CountsView, raised_all}
use Rattle.roam_outgoing.proofs.SendingLemmas.{puts_from, puts_same}
use Rattle.roam_outgoing.specs.Sending.{outbox_in}
use Rattle.roam_workers.proofs.TickLemmas.{not_ticked_so, ticked_so}
use Rattle.roam_workers.proofs.context.WorkerContext.tick.Goals as goal

pub returns-in-Ok-Some : goal.returns-in-Ok-Some
returns-in-Ok-Some g c =
    let inv = c.loop.invariant in
    let counted = rw c.in-Ok-Some.field-0-is at c.ticked.ensures.counts in
    record {
      ticks = inl (ticked_so g.N.Opened.opening _ _ _ _ _ _ _ _ c.in-Ok-Some.field-0 c.in-Ok-Some.ticked
          c.in-Ok-Some.field-0-is inv.now inv.tallies c.in-Ok-Some.ensures.tick.tick
          c.ticked.ensures.kept.0
          (counted ∙ ap (λ (x : CountsView). raised_all x
          (tick_counts c.in-Ok-Some.ticked.answered.happening)) inv.counts)
          (puts_from _ _ _ _ (ap outbox_in inv.outgoing) (rw c.in-Ok-Some.field-0-is at c.ticked.ensures.sends)));
    }

pub returns-in-Ok-None : goal.returns-in-Ok-None
returns-in-Ok-None g c =
    let inv = c.loop.invariant in
    let look = not_ticked_so g.N.Opened.opening _ _ _ _ _ c.in-Ok-None.field-0 c.in-Ok-None.field-0-is
    c.in-Ok-None.ensures.tick.tick in
    record {
      ticks = inr (inl (record {
        tallies = look ∙ inv.tallies;
        counts = inv.counts;
        sends = puts_same _ _ (ap outbox_in inv.outgoing);
      }));
    }
