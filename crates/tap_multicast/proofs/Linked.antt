-- The primary of a slot is linked, and stands in that slot; links that are picked ascend.
-- Cited above: picked-ascend, primary_near-stands, primary_stands
use Rattle.std.proofs.Common.{◌≡◌, ◌≢◌, ℕ, ◌<◌, Bool, Some, List, [], ◌∷◌, filter, map, arith, ap, refl, sym, subst, ◌∙◌}
use Rattle.std.proofs.lemmas.Cmp.{nat_list_cmp_total}
use Rattle.std.proofs.lemmas.List.{get_or-map, length-map}
use Rattle.std.proofs.lemmas.List.Kept.{AllPairs-filter}
use Rattle.tap_name.specs.declared.slot.Slot.{Slot}
use Rattle.tap_name.specs.Name.{IsName}
use Rattle.tap_name.specs.Order.{AreAscending, IsBelow, name_cmp}
use Rattle.tap_link.specs.declared.kind.Kind.TheVariants.{Settled}
use Rattle.tap_link.specs.Entry.{LinkEntry}
use Rattle.tap_link.specs.LinkSet.{LinksAscend, least_settled}
use Rattle.tap_link.proofs.Least.{least_settled_is}
use Rattle.tap_table.specs.ByName.{targets_of}
use Rattle.tap_table.specs.Table.{IsTable, SlotLinks, TableValue, kind_in, links_at, place_of, slot_number}
use Rattle.tap_table.proofs.Found.{kind_of_target, link_found, link_to, slot_is_own}
use Rattle.tap_table.proofs.Primaries.{primary_near}
use Rattle.tap_table.proofs.Slots.{number_back, place_inside}
use Rattle.tap_multicast.proofs.Picked.{picked}

module _ (t : TableValue) (valid : IsTable t) where
  -- the primary of a slot is settled, and this is its slot at the owner
  pub primary_stands : (slot : Slot) → slot.digit < t.settings.base → (first : List ℕ)
      → least_settled (links_at t slot) ≡ Some first → (kind_in t first ≡ Some Settled) × (place_of t.owner first ≡ slot)
  primary_stands slot below first is =
      let number = slot_number t.settings.base slot in
      let links = links_at t slot in
      let least = least_settled_is name_cmp nat_list_cmp_total links first (valid.sets number).ascending is in
      let link = link_found links first Settled least.settled in (
        kind_of_target t valid number (link_to first Settled) link.0 link.1,
        sym (slot_is_own t valid number (link_to first Settled) link.0 link.1) ∙ number_back t.settings.base slot below,
      )

  -- so is that of the slot in which a name stands
  pub primary_near-stands : (name first : List ℕ) → IsName t.settings name → name ≢ t.owner → primary_near t name ≡ Some first
      → (kind_in t first ≡ Some Settled) × (place_of t.owner first ≡ place_of t.owner name)
  primary_near-stands name first is_name other =
      primary_stands (place_of t.owner name) (place_inside t.settings t.owner name valid.owner is_name other).1 first

targets-ascend : (links : SlotLinks) → LinksAscend name_cmp links → AreAscending (targets_of links)
targets-ascend links up i j d before within =
    let len = length-map links (λ (e : LinkEntry (List ℕ)). e.target) in
    let e : LinkEntry (List ℕ) = link_to d Settled in
    let at_i = get_or-map (λ (f : LinkEntry (List ℕ)). f.target) links i e d (omega arith) in
    let at_j = get_or-map (λ (f : LinkEntry (List ℕ)). f.target) links j e d (omega arith) in
    rw (at_i, at_j) (up i j e before (omega arith))

-- what is made of some of ascending links ascends by name
module _ {X : Type 0} (make : LinkEntry (List ℕ) → X) (name_of : X → List ℕ)
    (keeps : (e : LinkEntry (List ℕ)) → name_of (make e) ≡ e.target) where
  names_made : (links : SlotLinks) → map name_of (map make links) ≡ targets_of links
  names_made [] = refl
  names_made (e ∷ links) = rw (keeps e) (ap (λ l. e.target ∷ l) (names_made links))

  pub picked-ascend : (passes : LinkEntry (List ℕ) → Bool) (links : SlotLinks) → LinksAscend name_cmp links
      → AreAscending (map name_of (picked make passes links))
  picked-ascend passes links up =
      subst AreAscending (sym (names_made (filter passes links)))
      (targets-ascend (filter passes links) (AllPairs-filter (λ e f. IsBelow e.target f.target) passes links up))
