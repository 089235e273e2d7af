-- The tables of nodes, as a walk sees them.
use Rattle.std.specs.Prelude.{ℕ, List, Option}
use Rattle.tap_name.specs.declared.slot.Slot.{Slot}
use Rattle.tap_name.specs.Root.{first_of}

-- for a node and a slot of its table, the core nodes to which it has links there, ascending
abbrev pub Tables : Type 0
Tables = List ℕ → Slot → List (List ℕ)

-- the least link of a node to a core node in the slot of this level and digit
abbrev pub least_link : Tables → List ℕ → ℕ → ℕ → Option (List ℕ)
least_link tables node level digit = first_of (tables node (record { level = level; digit = digit }))
