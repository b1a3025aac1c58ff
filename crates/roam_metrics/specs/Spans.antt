-- The time that something took, in two units. Ours.
use Rattle.std.specs.Prelude.{ℕ, ◌+◌, ◌*◌, ◌≤◌, ◌<◌, ◌≡◌}
use Rattle.roam_metrics.specs.declared.spans.TimeUnit.{TimeUnit}
use Rattle.roam_metrics.specs.declared.spans.TimeUnit.TheVariants as unit
use Rattle.roam_metrics.specs.declared.spans.Span.{Span}

-- how many seconds a unit has
abbrev pub seconds_in : TimeUnit → ℕ
seconds_in unit.Second = 1
seconds_in unit.Minute = 60
seconds_in unit.Hour = 3600
seconds_in unit.Day = 86400

-- how many the next smaller one has
abbrev pub seconds_of_smaller : TimeUnit → ℕ
seconds_of_smaller unit.Second = 1
seconds_of_smaller unit.Minute = 1
seconds_of_smaller unit.Hour = 60
seconds_of_smaller unit.Day = 3600

-- ## Span, second, column
-- A span is so many of the largest unit (seconds, minutes, hours, days) of which there is one, and so many of the next
-- smaller one: what is left is less than one of those. A moment of a server is that many milliseconds behind its start,
-- in whole seconds since 1970. A row of a table is its cells, each with two blanks before it and the blanks that it
-- lacks of its column's width, which all cells of the column fit into.
-- Source: ours
-- Rules out: a minute that is lost in rounding; a cell that runs into the next column
-- Stands in: `roam_metrics` `Spans.antt`: `seconds_of`, `IsLargest`; `Tables.antt`: `row_text`, `Fits`; `span_of`,
-- `push_row`, `width_of`; `roam_metrics` `About.antt`: `second_at`, `seconds_since`; `About::second_at`,
-- `About::seconds_since`
--
-- how many seconds a span has
abbrev pub seconds_of : Span → ℕ
seconds_of span = span.many * seconds_in span.unit + span.few * seconds_of_smaller span.unit

-- how many of a unit are one of the next larger one; days have none
abbrev pub StaysBelow : TimeUnit → ℕ → Type 0
StaysBelow unit.Second many = many < 60
StaysBelow unit.Minute many = many < 60
StaysBelow unit.Hour many = many < 24
StaysBelow unit.Day many = 1 ≤ many

-- seconds have no smaller unit
abbrev pub FewStayBelow : TimeUnit → ℕ → Type 0
FewStayBelow unit.Second few = few ≡ 0
FewStayBelow unit.Minute few = few < 60
FewStayBelow unit.Hour few = few < 60
FewStayBelow unit.Day few = few < 24

-- no part of it is one of a larger unit
pub record IsLargest (span : Span) : Type 0 where
  pub many : StaysBelow span.unit span.many
  pub few : FewStayBelow span.unit span.few
