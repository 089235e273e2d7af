-- The place of a link in its slot.
use Rattle.std.specs.Prelude.{◌≡◌, ℕ, ◌<◌, [], length, slice_get}
use Rattle.std.specs.List.{slice_index_or}
use Rattle.tap_table.specs.declared.table.Place.{Place}
use Rattle.tap_table.specs.Table.{TableValue, rows, rows_of}

-- the link at a place among all links of the table is this one of its slot
pub record IsPlace (t : TableValue) (i : ℕ) (place : Place) : Type 0 where
  pub slot : place.number < length t.slots
  pub link : place.link < length (slice_index_or t.slots place.number [])
  pub same : slice_get (rows t) i
      ≡ slice_get (rows_of t.settings.base (place.number, slice_index_or t.slots place.number [])) place.link
