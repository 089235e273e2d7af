-- What a cover offers, slot by slot in the order of names.
use Rattle.std.proofs.Common.{◌≡◌, ◌&&◌, ℕ, ◌<◌, List, get_or, is_some, ap, sym, refl, ◌∙◌}
use Rattle.std.specs.List.{flat_map}
use Rattle.tap_name.specs.declared.slot.Slot.{Slot}
use Rattle.tap_link.specs.LinkSet.{least_settled}
use Rattle.tap_table.specs.ByName.{by_name, slots_by_name}
use Rattle.tap_table.specs.Table.{IsTable, TableValue, links_at}
use Rattle.tap_table.proofs.ByName.{slots_inside}
use Rattle.tap_multicast.specs.Offer.{answered_slots, has_slot, is_offered, offered_as, offers}
use Rattle.tap_multicast.specs.Slots.{offered_in}
use Rattle.tap_multicast.proofs.Answering.{offers-watched}
use Rattle.tap_multicast.proofs.Links.{links_stand}
use Rattle.tap_multicast.proofs.Picked.{flat_map-same, picked, picked-flat_map, picked-same}

module _ (t : TableValue) (valid : IsTable t) (watch : List Slot) (joiner : List ℕ) where
  slot_offers : (slot : Slot) → slot.digit < t.settings.base
      → picked offered_as (is_offered t watch joiner) (links_at t slot) ≡ offered_in t watch joiner slot
  slot_offers slot below =
      let links = links_at t slot in
      let primary = least_settled links in
      picked-same offered_as offered_as (is_offered t watch joiner) (offers joiner (is_some primary && has_slot watch slot) primary) links
      (λ k d within.
      let e = get_or links k d in
      ap (λ s. offers joiner (has_slot (answered_slots t joiner watch) s) (least_settled (links_at t s)) e)
      (links_stand t valid slot below k d within)
      ∙ offers-watched t joiner slot watch primary refl e)
      (λ k d within. refl)

  pub offer_by_slot : flat_map (offered_in t watch joiner) (slots_by_name t.settings t.owner)
      ≡ picked offered_as (is_offered t watch joiner) (by_name t)
  offer_by_slot =
      let slots = slots_by_name t.settings t.owner in
      sym (picked-flat_map offered_as (is_offered t watch joiner) (links_at t) slots
      ∙ flat_map-same (λ slot. picked offered_as (is_offered t watch joiner) (links_at t slot)) (offered_in t watch joiner) slots
      (λ k d within. slot_offers (get_or slots k d) (slots_inside t.settings t.owner valid.owner k d within).1))
