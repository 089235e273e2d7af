-- a watch is an ascending list of distinct slots
use Rattle.std.specs.Prelude.{◌≢◌, ◌==◌, ℕ, ◌<◌, ◌≤◌, Bool, ◌&&◌, not, List, [], ◌∷◌, ◌++◌, filter, slice_index, All, AllPairs}
use Rattle.tap_name.specs.declared.slot.Slot.{Slot}
use Rattle.tap_name.specs.Settings.{SettingsValue}
pub use Rattle.tap_name.specs.Slot.{Precedes}

-- each slot stands before each later one
abbrev pub SlotsAscend : List Slot → Type 0
SlotsAscend slots = AllPairs Precedes slots

-- it is another slot than this one
abbrev pub is_other : Slot → Slot → Bool
is_other slot s = not (s.level == slot.level && s.digit == slot.digit)

-- the slots but this one
abbrev pub without : Slot → List Slot → List Slot
without slot slots = filter (is_other slot) slots

-- the slots with one more after them
abbrev pub with_last : List Slot → Slot → List Slot
with_last slots slot = slots ++ slot ∷ []

-- a slot of a level up to the prefix, with a digit below the base that isn't the joiner's at that level
pub record IsWatched (p : SettingsValue) (joiner : List ℕ) (prefix : ℕ) (s : Slot) : Type 0 where
  pub level : s.level ≤ prefix
  pub digit : s.digit < p.base
  pub other : s.digit ≢ slice_index joiner s.level

-- the form of a watch: the slots ascend, and each is one of the joiner's levels up to the prefix
pub record IsWatch (p : SettingsValue) (joiner : List ℕ) (prefix : ℕ) (slots : List Slot) : Type 0 where
  pub ascending : SlotsAscend slots
  pub watched : All (IsWatched p joiner prefix) slots
