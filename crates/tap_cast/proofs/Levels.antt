-- The slots of a range have its level: all their targets are told, or none.
use Rattle.std.proofs.Common.{◌≡◌, ℕ, ◌-◌, true, false, List, [], ◌∷◌, ◌++◌, map, ap, refl}
use Rattle.std.specs.List.{flat_map, range_with_len}
use Rattle.tap_table.specs.declared.slot_range.SlotRange.{SlotRange}
use Rattle.tap_table.specs.Table.{TableValue}
use Rattle.tap_cast.specs.Targets.{slot_targets, targets_between}
use Rattle.tap_table.proofs.Stepping.{in_range, slot_of_range}
use Rattle.tap_table.specs.Levels.{is_between}

module _ (t : TableValue) (from to : ℕ) (range : SlotRange) where
  all_digits : (digits : List ℕ) → is_between from to range.level ≡ true
      → flat_map (targets_between t from to) (map (slot_of_range range) digits)
      ≡ flat_map (slot_targets t) (map (slot_of_range range) digits)
  all_digits [] within = refl
  all_digits (digit ∷ digits) within =
      rw within (ap (λ l. slot_targets t (slot_of_range range digit) ++ l) (all_digits digits within))

  no_digit : (digits : List ℕ) → is_between from to range.level ≡ false
      → flat_map (targets_between t from to) (map (slot_of_range range) digits) ≡ []
  no_digit [] without = refl
  no_digit (digit ∷ digits) without = rw without (no_digit digits without)

  -- at one of the levels, the range tells what its slots tell
  pub all_told : is_between from to range.level ≡ true → in_range (targets_between t from to) range ≡ in_range (slot_targets t) range
  all_told = all_digits (range_with_len range.from (range.to - range.from))

  -- at another, nothing
  pub none_told : is_between from to range.level ≡ false → in_range (targets_between t from to) range ≡ []
  none_told = no_digit (range_with_len range.from (range.to - range.from))
