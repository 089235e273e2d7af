-- The targets of a cover, slot by slot in the order of names: none at a level that is neither covered nor introduced.
use Rattle.std.proofs.Common.{◌≡◌, ℕ, ◌+◌, ◌-◌, ◌<◌, ◌||◌, false, not, List, [], ◌∷◌, filter, get_or, map, nat_eq, Option, ap, sym, refl, ◌∙◌}
use Rattle.std.specs.Cmp.Lexicographic.{pointwise}
use Rattle.std.specs.List.{flat_map, range_with_len}
use Rattle.std.proofs.lemmas.Bool.{and_right, or_parts}
use Rattle.tap_name.specs.declared.slot.Slot.{Slot}
use Rattle.tap_name.specs.Prefix.{lcp}
use Rattle.tap_name.proofs.Prefixes.{lcp-is}
use Rattle.tap_link.specs.Entry.{LinkEntry}
use Rattle.tap_link.specs.LinkSet.{least_settled}
use Rattle.tap_table.specs.ByName.{slots_by_name}
use Rattle.tap_table.specs.declared.slot_range.SlotRange.{SlotRange}
use Rattle.tap_table.specs.Table.{IsTable, SlotLinks, TableValue, links_at, place_of}
use Rattle.tap_table.proofs.ByName.{slots_inside}
use Rattle.tap_table.proofs.Stepping.{in_range, slot_of_range}
use Rattle.tap_multicast.specs.declared.cover.Cover.{Cover}
use Rattle.tap_multicast.specs.Slots.{target_at, told_in}
use Rattle.tap_multicast.specs.Targets.{is_covered, is_introduced, is_told, target_of, targets, tells}
use Rattle.tap_multicast.proofs.Links.{links_stand}
use Rattle.tap_multicast.proofs.Picked.{flat_map-same, picked, picked-flat_map, picked-same}

module _ (t : TableValue) (valid : IsTable t) (cover : Cover) where
  slot_tells : (slot : Slot) → slot.digit < t.settings.base
      → picked (target_of t.owner) (is_told t cover) (links_at t slot) ≡ told_in t cover slot
  slot_tells slot below =
      let links = links_at t slot in
      let stand = links_stand t valid slot below in
      let level : (e : LinkEntry (List ℕ)) → place_of t.owner e.target ≡ slot → lcp t.owner e.target ≡ slot.level =
      λ e place. lcp-is t.owner e.target ∙ ap (λ (s : Slot). s.level) place in
      picked-same (target_of t.owner) (target_at (slot.level + 1)) (is_told t cover) (tells cover slot.level (least_settled links)) links
      (λ k d within. let place = stand k d within in
      rw (level (get_or links k d) place) (ap (λ s. tells cover slot.level (least_settled (links_at t s)) (get_or links k d)) place))
      (λ k d within. ap (λ l. target_at (l + 1) (get_or links k d)) (level (get_or links k d) (stand k d within)))

  pub targets_by_slot : flat_map (told_in t cover) (slots_by_name t.settings t.owner) ≡ targets t cover
  targets_by_slot =
      let slots = slots_by_name t.settings t.owner in
      sym (picked-flat_map (target_of t.owner) (is_told t cover) (links_at t) slots
      ∙ flat_map-same (λ slot. picked (target_of t.owner) (is_told t cover) (links_at t slot)) (told_in t cover) slots
      (λ k d within. slot_tells (get_or slots k d) (slots_inside t.settings t.owner valid.owner k d within).1))

-- at other levels nothing is told
module _ (t : TableValue) (cover : Cover) where
  no_link : (level : ℕ) (primary : Option (List ℕ)) (links : SlotLinks) → (is_covered cover level || is_introduced cover level) ≡ false
      → filter (tells cover level primary) links ≡ []
  no_link level primary [] beyond = refl
  no_link level primary (e ∷ links) beyond =
      let parts = or_parts (is_covered cover level) (is_introduced cover level) beyond in
      let fails : tells cover level primary e ≡ false =
      rw (parts.0, parts.1) (and_right (not (pointwise nat_eq cover.joiner e.target)) false refl) in
      rw fails (no_link level primary links beyond)

  no_digit : (range : SlotRange) (digits : List ℕ) → (is_covered cover range.level || is_introduced cover range.level) ≡ false
      → flat_map (told_in t cover) (map (slot_of_range range) digits) ≡ []
  no_digit range [] beyond = refl
  no_digit range (digit ∷ digits) beyond =
      let links = links_at t (slot_of_range range digit) in
      rw (no_link range.level (least_settled links) links beyond) (no_digit range digits beyond)

  pub none_told : (range : SlotRange) → (is_covered cover range.level || is_introduced cover range.level) ≡ false
      → in_range (told_in t cover) range ≡ []
  none_told range = no_digit range (range_with_len range.from (range.to - range.from))
