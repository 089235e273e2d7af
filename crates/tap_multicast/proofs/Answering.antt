-- A slot that has a primary is answered exactly if it is watched.
use Rattle.std.proofs.Common.{◌≡◌, ◌↔◌, ℕ, ◌&&◌, zero, suc, Bool, true, false, Option, None, Some, List, [], ◌∷◌, Contains, IsTrue, is_some, arith, refl, sym, inl, inr}
use Rattle.std.proofs.lemmas.Bool.{and_right, cases_Bool, or_right}
use Rattle.std.proofs.lemmas.Bool.Decides.{nat_tests}
use Rattle.std.proofs.lemmas.Map.Views.{any-filter_same, Contains-from_any}
use Rattle.tap_name.specs.declared.slot.Slot.{Slot}
use Rattle.tap_name.specs.Slot.{slot_at}
use Rattle.tap_name.proofs.Slots.{same_slot}
use Rattle.tap_link.specs.Entry.{LinkEntry}
use Rattle.tap_link.specs.LinkSet.{least_settled}
use Rattle.tap_table.specs.Members.{is_slot}
use Rattle.tap_table.specs.Table.{TableValue, links_at}
use Rattle.tap_multicast.specs.Offer.{answered_slots, answers, has_slot, offers}

abbrev same : Slot → Slot → Bool
same slot other = is_slot slot (Some other)

same-is : (slot other : Slot) → same slot other ≡ true → slot ≡ other
same-is slot other is = same_slot slot other (grind (arith, nat_tests)) (grind (arith, nat_tests))

same-itself : (slot : Slot) → same slot slot ≡ true
same-itself slot = grind (arith, nat_tests)

pub has_slot-from_Contains : (slots : List Slot) (slot : Slot) → Contains slots slot → has_slot slots slot ≡ true
has_slot-from_Contains [] slot (k, within, is) = absurd (omega arith)
has_slot-from_Contains (s ∷ slots) slot (zero, within, is) = rw (is, same-itself slot) refl
has_slot-from_Contains (s ∷ slots) slot (suc k, within, is) =
    rw (has_slot-from_Contains slots slot (k, omega arith, is)) (or_right (same slot s) true refl)

-- whether a watch has a slot is whether it is among its slots
pub has_slot-is : (slots : List Slot) (slot : Slot) (has : Bool) → (IsTrue has ↔ Contains slots slot) → has ≡ has_slot slots slot
has_slot-is slots slot true found = sym (has_slot-from_Contains slots slot (found.0 refl))
has_slot-is slots slot false found =
    elim (cases_Bool (has_slot slots slot)) [
      | inl there ↦ let wrong : false ≡ true = found.1 (Contains-from_any {eq = same} same-is slot slots there) in cc
      | inr none ↦ sym none
    ]

module _ (t : TableValue) (joiner : List ℕ) (slot : Slot) where
  answers-primary : (first : List ℕ) → least_settled (links_at t slot) ≡ Some first → (other : Slot) → same slot other ≡ true
      → answers t joiner other ≡ true
  answers-primary first primary other is =
      rw (← same-is slot other is, primary) (or_right (is_slot slot (slot_at joiner t.owner)) true refl)

  -- so the primary of an answered slot is that of a watched one
  pub offers-watched : (watch : List Slot) (primary : Option (List ℕ)) → least_settled (links_at t slot) ≡ primary
      → (link : LinkEntry (List ℕ)) → offers joiner (has_slot (answered_slots t joiner watch) slot) primary link
      ≡ offers joiner (is_some primary && has_slot watch slot) primary link
  offers-watched watch None none link =
      let nothing = and_right (has_slot (answered_slots t joiner watch) slot) false refl in rw nothing refl
  offers-watched watch (Some first) primary link =
      let test = any-filter_same (same slot) (answers t joiner) true (answers-primary first primary) watch in rw test refl
