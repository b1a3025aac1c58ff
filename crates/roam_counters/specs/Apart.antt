-- Laws: counts are told apart. Ours.
use Rattle.std.specs.Prelude.{◌≡◌, ◌≢◌, ◌<◌}
use Rattle.roam_counters.specs.Cells.{HasPlace, cell_of, cells, holder_of, process_cell}
use Rattle.roam_counters.specs.declared.cell.Holder.TheVariants as holder
use Rattle.roam_counters.specs.declared.cell.Subject.{Subject}
use Rattle.roam_counters.specs.declared.event.CountedEvent.{CountedEvent}
use Rattle.roam_counters.specs.declared.process.Process.{Process}

-- two counts of subjects stand at one place of one list only where they are one; no count of a subject stands where one
-- of the server does; and all are among the counts that the list has
pub record CellsAreApart : Type 0 where
  pub subjects : (s t : Subject) (a b : CountedEvent) → holder_of s ≡ holder_of t → cell_of s a ≡ cell_of t b →
      (s ≡ t) × (a ≡ b)
  pub processes : (p q : Process) → process_cell p ≡ process_cell q → p ≡ q
  pub both : (s : Subject) (a : CountedEvent) (p : Process) → holder_of s ≡ holder.Server →
      cell_of s a ≢ process_cell p
  pub within : (s : Subject) (a : CountedEvent) → HasPlace s → cell_of s a < cells (holder_of s)
