-- The code's receipts and reports, as they are seen.
use Rattle.std.specs.Prelude.{ℕ, List, [], map, slice_index_or}
use Rattle.std.specs.declared.vec.Vec.{Vec}
use Rattle.roam_core.specs.Events.{PlainEvent}
use Rattle.roam_core.specs.Shown.{shown_event}
use Rattle.roam_shard.specs.Steps.{PlainStep, shown_answer}
use Rattle.roam_history.specs.declared.opened.Opened.{Ghosts}
use Rattle.roam_history.specs.Entries.{HistoryEntry, steps_in}
use Rattle.roam_history.specs.Fronts.{FrontView}
use Rattle.roam_history.specs.Receipts.{PlainReceipt}
use Rattle.roam_history.specs.declared.receipt.Receipt.{Receipt}
use Rattle.roam_history.specs.declared.report.Report.{Report}

-- the step of a receipt: its event and its answer
abbrev pub shown_step : {A N : Type 0} {g : Ghosts N} → Receipt A N g → PlainStep
shown_step r = record { event = shown_event r.event; answer = shown_answer r.answer }

abbrev pub shown_receipt : {A N : Type 0} {g : Ghosts N} → Receipt A N g → PlainReceipt
shown_receipt r = record { shard = r.shard; number = r.number; step = shown_step r }

abbrev pub shown_receipts : {A N : Type 0} {g : Ghosts N} → List (Receipt A N g) → List PlainReceipt
shown_receipts receipts = map shown_receipt receipts

-- the events of the steps of one shard that are still stored
abbrev pub items_of : {A : Type 0} → Vec PlainEvent A → List PlainEvent
items_of steps = steps.items

-- what a report still has of each shard
abbrev pub stored : {A N : Type 0} {g : Ghosts N} → Report A N g → List (List PlainEvent)
stored report = map items_of report.steps.items

-- all steps of a shard, those that were let go of too
abbrev pub all_in : FrontView → List PlainStep
all_in front = steps_in front.entries

-- what was recorded of each shard: all its steps
abbrev pub recorded : {A N : Type 0} {g : Ghosts N} → Report A N g → List (List PlainStep)
recorded report = map all_in report.fronts.items

-- the whole history of a shard
abbrev pub whole_of : {A N : Type 0} {g : Ghosts N} → Report A N g → ℕ → List HistoryEntry
whole_of report shard = slice_index_or (map (λ f. f.entries) report.fronts.items) shard []
