use Rattle.std.proofs.Common.{◌≡◌}
use Rattle.roam_pending.specs.DueOrder.{due_at, is_after}
use Rattle.roam_migrate.specs.Private.Lost.{counted, held_and_goes, waits_and_goes}
use Rattle.roam_migrate.proofs.LossLemmas.{counted_read}
use Rattle.roam_migrate.proofs.losses.count_going.Given as goal

abbrev pub invariant-loop-due : goal.invariant-loop-due
invariant-loop-due g l = record {
  waiting :
      l.waiting ≡ counted_read (waits_and_goes l.old l.new) l.last (g.E.Entries.entries_of l.entries l.realm);
  held : l.held ≡ counted_read (held_and_goes l.old l.new) l.last (g.E.Entries.entries_of l.entries l.realm);
}

abbrev pub decreases-loop-due : goal.decreases-loop-due
decreases-loop-due g l = counted (λ e. is_after l.last (due_at e)) (g.E.Entries.entries_of l.entries l.realm)
