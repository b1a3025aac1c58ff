-- A table of text. Ours.
use Rattle.std.specs.Prelude.{ℕ, codes, ◌≤◌, ◌-◌, List, ◌++◌, Option, Some, None, length, replicate, slice_get, string_bytes, flat_map}
use Rattle.roam_metrics.specs.declared.tables.CellSide.{CellSide}
use Rattle.roam_metrics.specs.declared.tables.CellSide.TheVariants as side
use Rattle.roam_metrics.specs.declared.tables.Cell.{Cell}
use Rattle.roam_metrics.specs.declared.tables.Row.{Row}

-- a text with the blanks (32) that it lacks of a width
abbrev pub padded : CellSide → ℕ → List ℕ → List ℕ
padded side.Left width text = text ++ replicate (width - length text) 32
padded side.Right width text = replicate (width - length text) 32 ++ text

-- a cell: two blanks lie before each
abbrev pub cell_text : Cell → List ℕ
cell_text cell = codes "  " ++ padded cell.column.side cell.column.width (string_bytes cell.text)

abbrev pub cells_text : List Cell → List ℕ
cells_text cells = flat_map cell_text cells

-- a row: its cells
abbrev pub row_text : Row → List ℕ
row_text row = cells_text row.cells.items ++ codes "\n"

-- how many octets a row has in a column
abbrev pub octets_of : Option Cell → ℕ
octets_of (Some cell) = length (string_bytes cell.text)
octets_of None = 0

abbrev pub cell_width : ℕ → Row → ℕ
cell_width at row = octets_of (slice_get row.cells.items at)

-- what a row has in a column fits into so many octets
abbrev pub Fits : ℕ → ℕ → Row → Type 0
Fits at width row = cell_width at row ≤ width
