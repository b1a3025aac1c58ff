-- Histories that are to be opened, one for each shard of a hub (ours).
use Rattle.std.specs.Prelude.{ℕ, length, Option, Some, None, slice_get}
use Rattle.logbook.specs.Pages.{Book}
use Rattle.roam_history.specs.declared.blank.Blank.{Blank}
use Rattle.roam_history.specs.declared.blanks.Blanks.{Blanks}

-- how many there are, and which ghost book each has
abbrev pub count_of : {A : Type 0} → Blanks A → ℕ
count_of blanks = length blanks.blanks.items

abbrev pub book_of : Option Blank → Book
book_of None = record { number = 0; log_name = 0; cells_name = 0 }
book_of (Some blank) = blank.seen.book

abbrev pub books_of : {A : Type 0} → Blanks A → ℕ → Book
books_of blanks k = book_of (slice_get blanks.blanks.items k)
