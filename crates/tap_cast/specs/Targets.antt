-- Whom a node sends a cast on to.
use Rattle.std.specs.Prelude.{ℕ, ◌+◌, if◌then◌else◌, List, [], ◌∷◌, map, filter, Option, None, Some}
use Rattle.std.specs.List.{flat_map}
use Rattle.tap_name.specs.declared.slot.Slot.{Slot}
use Rattle.tap_link.specs.LinkSet.{is_pinned, least_settled}
use Rattle.tap_table.specs.ByName.{slots_by_name}
use Rattle.tap_table.specs.Levels.{is_between}
use Rattle.tap_table.specs.Table.{SlotLinks, TableValue, links_at}
use Rattle.tap_cast.specs.declared.target.CastTarget.{CastTarget}

-- the pinned targets of these links
abbrev pub pins_of : SlotLinks → List (List ℕ)
pins_of links = map (λ e. e.target) (filter (λ e. is_pinned (Some e.kind)) links)

-- the primary of a slot, or else all its pins
abbrev pub primary_or_pins : Option (List ℕ) → SlotLinks → List (List ℕ)
primary_or_pins None links = pins_of links
primary_or_pins (Some primary) links = primary ∷ []

-- a target that is told the cast at a level
abbrev pub told_at : ℕ → List ℕ → CastTarget
told_at level name = record { to = name; level = level }

-- the targets of a slot: its primary, or if it has none all its pins, each at the level after the slot's
abbrev pub slot_targets : TableValue → Slot → List CastTarget
slot_targets t slot = let links = links_at t slot in map (told_at (slot.level + 1)) (primary_or_pins (least_settled links) links)

-- the targets of a slot whose level is one of these
abbrev pub targets_between : TableValue → ℕ → ℕ → Slot → List CastTarget
targets_between t from to slot = if is_between from to slot.level then slot_targets t slot else []

-- the targets of a cast at the levels from one on and below another, slot by slot in the order of names
abbrev pub cast_targets : TableValue → ℕ → ℕ → List CastTarget
cast_targets t from to = flat_map (targets_between t from to) (slots_by_name t.settings t.owner)
