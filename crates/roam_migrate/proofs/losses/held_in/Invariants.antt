use Rattle.std.proofs.Common.{◌≡◌}
use Rattle.roam_pending.specs.DueOrder.{due_at, is_after}
use Rattle.roam_pending.specs.PlainEntry.{is_done}
use Rattle.roam_migrate.specs.Private.Lost.{counted}
use Rattle.roam_migrate.proofs.LossLemmas.{counted_read}
use Rattle.roam_migrate.proofs.losses.held_in.Given as goal

abbrev pub invariant-loop-due : goal.invariant-loop-due
invariant-loop-due g l = l.held ≡ counted_read is_done l.last (g.E.Entries.entries_of l.entries l.realm)

abbrev pub decreases-loop-due : goal.decreases-loop-due
decreases-loop-due g l = counted (λ e. is_after l.last (due_at e)) (g.E.Entries.entries_of l.entries l.realm)
