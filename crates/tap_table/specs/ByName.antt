-- The links of a table by name, over slots by slot.
use Rattle.std.specs.Prelude.{ℕ, ◌+◌, ◌-◌, ◌*◌, nat_lt, if◌then◌else◌, List, map, slice_index}
use Rattle.std.specs.List.{flat_map, range_with_len}
use Rattle.tap_name.specs.declared.slot.Slot.{Slot}
use Rattle.tap_name.specs.Settings.{SettingsValue}
use Rattle.tap_table.specs.declared.slot_range.SlotRange.{SlotRange}
use Rattle.tap_table.specs.Table.{SlotLinks, TableValue, links_at}

-- the slots of a range
abbrev pub slots_in : SlotRange → List Slot
slots_in range = map (λ digit. record { level = range.level; digit = digit }) (range_with_len range.from (range.to - range.from))

-- The slots in the order of the names that fit them, in ranges: up the levels over the digits below the owner's, then down
-- the levels over those above it.
abbrev pub range_by_name : SettingsValue → List ℕ → ℕ → SlotRange
range_by_name p owner i =
    if nat_lt i p.digits
    then record { level = i; from = 0; to = slice_index owner i }
    else record {
      level = 2 * p.digits - 1 - i;
      from = slice_index owner (2 * p.digits - 1 - i) + 1;
      to = p.base;
    }

abbrev pub slots_by_name : SettingsValue → List ℕ → List Slot
slots_by_name p owner = flat_map (λ i. slots_in (range_by_name p owner i)) (range_with_len 0 (2 * p.digits))

-- the links of a table, slot by slot in this order: they ascend by name
abbrev pub by_name : TableValue → SlotLinks
by_name t = flat_map (links_at t) (slots_by_name t.settings t.owner)

-- the targets of these links
abbrev pub targets_of : SlotLinks → List (List ℕ)
targets_of links = map (λ e. e.target) links

-- the targets of a table, ascending
abbrev pub targets_by_name : TableValue → List (List ℕ)
targets_by_name t = targets_of (by_name t)
