-- A link of a table, with its slot.
use Rattle.std.specs.Prelude.{ℕ, List, [], drop}
use Rattle.std.specs.List.{enumerate_from, flat_map, slice_index_or}
use Rattle.tap_table.specs.declared.row.Row.{Row as RowOfCode}
use Rattle.tap_table.specs.Table.{Row, TableValue, rows_of}

-- the row that this one of the code is
abbrev pub row_of : RowOfCode → Row
row_of row = record { slot = row.slot; entry = record { target = row.target; kind = row.kind } }

-- the links of the slot of this number
abbrev pub rows_numbered : TableValue → ℕ → List Row
rows_numbered t number = rows_of t.settings.base (number, slice_index_or t.slots number [])

-- the links that are left: those of the slots from this number on, without so many of the first ones
abbrev pub rows_left : TableValue → ℕ → ℕ → List Row
rows_left t number link = drop link (flat_map (rows_of t.settings.base) (enumerate_from number (drop number t.slots)))
