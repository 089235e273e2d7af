-- A range of slots of which none has a link adds nothing to the targets of a cover, nor to its offer.
use Rattle.std.proofs.Common.{◌≡◌, ℕ, ◌-◌, ◌≤◌, List, [], ◌∷◌, map, arith, refl}
use Rattle.std.specs.List.{flat_map, range_with_len}
use Rattle.tap_name.specs.declared.slot.Slot.{Slot}
use Rattle.tap_table.specs.declared.slot_range.SlotRange.{SlotRange}
use Rattle.tap_table.specs.Table.{HasNoLinksFrom, TableValue, links_at}
use Rattle.tap_table.proofs.Stepping.{in_range, slot_of_range}

module _ {X : Type 0} (t : TableValue) (of_slot : Slot → List X) (nothing : (slot : Slot) → links_at t slot ≡ [] → of_slot slot ≡ []) where
  no_slot : (range : SlotRange) (digits : List ℕ) → HasNoLinksFrom t range.level → flat_map of_slot (map (slot_of_range range) digits) ≡ []
  no_slot range [] none = refl
  no_slot range (digit ∷ digits) none =
      let slot = slot_of_range range digit in
      let within : range.level ≤ slot.level = omega arith in
      rw (nothing slot (none slot within)) (no_slot range digits none)

  pub in_range-unlinked : (range : SlotRange) → HasNoLinksFrom t range.level → in_range of_slot range ≡ []
  in_range-unlinked range none = no_slot range (range_with_len range.from (range.to - range.from)) none
