use Rattle.std.proofs.Common.{length}
use Rattle.std.specs.List.{filter}
use Rattle.roam_pending.specs.DueOrder.{due_list, is_after}
use Rattle.roam_rules.proofs.LettingGoLemmas.{AreDone}
use Rattle.roam_rules.proofs.rules.evict_done.only_done_due.Given as goal

abbrev pub invariant-loop-due : goal.invariant-loop-due
invariant-loop-due g l = AreDone l.now (g.E.Entries.entries_of l.entries l.realm) l.last

abbrev pub decreases-loop-due : goal.decreases-loop-due
decreases-loop-due g l = length (filter (is_after l.last)
    (due_list l.now (g.E.Entries.entries_of l.entries l.realm)))
