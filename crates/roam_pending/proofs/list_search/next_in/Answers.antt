use Rattle.roam_pending.proofs.NextLemmas.{next-turn, next-end}
use Rattle.roam_pending.proofs.list_search.next_in.Goals as goal

pub loop-entry-preserved : goal.loop-entry-preserved
loop-entry-preserved g c = rw (
  c.earlier-first.ensures,
  c.due_past.ensures,
) (next-turn c.args.last c.loop-entry.first c.args.entries.now c.loop-entry.entry-index
    c.entry-item.result c.loop-entry-test.true c.entry-item.is c.loop-entry.invariant)

pub returns : goal.returns
returns g c = next-end c.args.last c.loop-entry.first c.args.entries.now c.loop-entry.entry-index
    c.loop-entry-test.false c.loop-entry.invariant
