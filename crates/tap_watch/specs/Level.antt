-- the slots of whole levels, as lists
use Rattle.std.specs.Prelude.{◌==◌, ℕ, zero, suc, ◌+◌, if◌then◌else◌, List, [], ◌∷◌, ◌++◌, slice_index}
use Rattle.tap_name.specs.declared.slot.Slot.{Slot}
use Rattle.tap_name.specs.Settings.{SettingsValue}

-- the slots of a level with the digits below a bound, but the one of this digit
abbrev pub level_slots : ℕ → ℕ → ℕ → List Slot
level_slots level own zero = []
level_slots level own (suc digit) =
    let before = level_slots level own digit
    in (if digit == own then before else before ++ record { level = level; digit = digit } ∷ [])

-- the slots of the levels below a bound, but those of the joiner's own digits
abbrev pub levels_slots : ℕ → List ℕ → ℕ → List Slot
levels_slots base joiner zero = []
levels_slots base joiner (suc level) = levels_slots base joiner level ++ level_slots level (slice_index joiner level) base

-- the full watch: the slots of the levels up to a prefix, but those of the joiner's own digits
abbrev pub full_slots : SettingsValue → List ℕ → ℕ → List Slot
full_slots p joiner prefix = levels_slots p.base joiner (prefix + 1)
