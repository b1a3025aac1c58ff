use Rattle.std.proofs.Common.{◌≡◌, length}
use Rattle.std.specs.List.{filter}
use Rattle.roam_pending.specs.DueOrder.{due_at, is_after}
use Rattle.roam_migrate.proofs.CarryingLemmas.{IsCarrying}
use Rattle.roam_migrate.proofs.entries.carry_each.Given as goal

abbrev pub invariant-loop-due : goal.invariant-loop-due
invariant-loop-due g l = record {
  carrying : IsCarrying l.old l.new (g.E.Entries.entries_of l.fn.entries) (g.E.Entries.entries_of l.entries)
      l.fn.numbers l.numbers l.last;
  kept : g.E.Entries.keeps l.entries ≡ g.E.Entries.keeps l.fn.entries;
}

abbrev pub decreases-loop-due : goal.decreases-loop-due
decreases-loop-due g l = length (filter (λ x. is_after l.last (due_at x))
    (g.E.Entries.entries_of l.fn.entries l.old.index))
