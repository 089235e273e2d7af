-- What the slots of a table give, from one range by name on, and from one slot of a range on.
-- Cited above: from_digit, in_range, in_range-first, in_ranges, in_ranges-all, in_ranges-first, slot_of_range
use Rattle.std.proofs.Common.{◌≡◌, ℕ, ◌+◌, ◌-◌, ◌*◌, ◌<◌, ◌≤◌, suc, List, [], ◌∷◌, ◌++◌, map, arith, ap, ◌∙◌}
use Rattle.std.specs.List.{flat_map, range_with_len}
use Rattle.std.proofs.lemmas.Grind.{flat_map-append}
use Rattle.tap_name.specs.declared.slot.Slot.{Slot}
use Rattle.tap_name.specs.Settings.{SettingsValue}
use Rattle.tap_table.specs.declared.slot_range.SlotRange.{SlotRange}
use Rattle.tap_table.specs.ByName.{range_by_name, slots_by_name, slots_in}

-- the numbers of a range are its first one and the others
range_first : (from to : ℕ) → from < to → range_with_len from (to - from) ≡ from ∷ range_with_len (from + 1) (to - (from + 1))
range_first from to below = ap (range_with_len from) (let len : to - from ≡ suc (to - (from + 1)) = omega arith in len)

range_none : (from to : ℕ) → to ≤ from → range_with_len from (to - from) ≡ []
range_none from to past = ap (range_with_len from) (let len : to - from ≡ 0 = omega arith in len)

-- the range from another digit on, and its slot of a digit
abbrev pub from_digit : SlotRange → ℕ → SlotRange
from_digit range digit = record range { from = digit }

abbrev pub slot_of_range : SlotRange → ℕ → Slot
slot_of_range range digit = record { level = range.level; digit = digit }

module _ {X : Type 0} (of_slot : Slot → List X) where
  -- what the slots of a range give: that of its first one, and that of the others
  abbrev pub in_range : SlotRange → List X
  in_range range = flat_map of_slot (slots_in range)

  pub in_range-first : (range : SlotRange) (digit : ℕ) → digit < range.to
      → in_range (from_digit range digit) ≡ of_slot (slot_of_range range digit) ++ in_range (from_digit range (digit + 1))
  in_range-first range digit below =
      ap (λ digits. flat_map of_slot (map (slot_of_range range) digits)) (range_first digit range.to below)

  pub in_range-none : (range : SlotRange) (digit : ℕ) → range.to ≤ digit → in_range (from_digit range digit) ≡ []
  in_range-none range digit past =
      ap (λ digits. flat_map of_slot (map (slot_of_range range) digits)) (range_none digit range.to past)

  module _ (p : SettingsValue) (owner : List ℕ) where
    -- what the slots of the ranges from one on give: that of the first range, and that of the others
    abbrev pub in_ranges : ℕ → List X
    in_ranges i =
        flat_map of_slot (flat_map (λ k. slots_in (range_by_name p owner k)) (range_with_len i (2 * p.digits - i)))

    pub in_ranges-all : in_ranges 0 ≡ flat_map of_slot (slots_by_name p owner)
    in_ranges-all =
        ap (λ n. flat_map of_slot (flat_map (λ k. slots_in (range_by_name p owner k)) (range_with_len 0 n)))
        (let len : 2 * p.digits - 0 ≡ 2 * p.digits = omega arith in len)

    pub in_ranges-first : (i : ℕ) → i < 2 * p.digits → in_ranges i ≡ in_range (range_by_name p owner i) ++ in_ranges (i + 1)
    in_ranges-first i below =
        let slots : ℕ → List Slot = λ k. slots_in (range_by_name p owner k) in
        ap (λ places. flat_map of_slot (flat_map slots places)) (range_first i (2 * p.digits) below)
        ∙ flat_map-append of_slot (slots i) (flat_map slots (range_with_len (i + 1) (2 * p.digits - (i + 1))))

    pub in_ranges-none : (i : ℕ) → 2 * p.digits ≤ i → in_ranges i ≡ []
    in_ranges-none i past =
        ap (λ places. flat_map of_slot (flat_map (λ k. slots_in (range_by_name p owner k)) places)) (range_none i (2 * p.digits) past)
