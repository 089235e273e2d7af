-- What a first cover offers: all pins but the joiner, and the primaries of the answered slots, in ascending order; and what
-- is left to watch.
-- Cited above: all_left, IsOffered, left_exactly, no_offer, offer_ascends, offers_are, pin_offered, primary_offered
use Rattle.std.proofs.Common.{◌≡◌, ◌≢◌, ◌↔◌, ◌⊎◌, ◌&&◌, ℕ, ◌<◌, true, false, not, Some, List, [], Contains, filter, map, nat_eq, slice_get, All, ap, refl, sym, ◌∙◌, inl, inr}
use Rattle.std.specs.Cmp.Lexicographic.{pointwise}
use Rattle.std.proofs.lemmas.Bool.{and_parts, cases_Bool, not-true, not_from_false, or_cases}
use Rattle.std.proofs.lemmas.List.Elements.{All-map}
use Rattle.std.proofs.lemmas.Slice.Eq.{bytes_eq-Decides}
use Rattle.tap_name.specs.declared.slot.Offered.{Offered}
use Rattle.tap_name.specs.declared.slot.Slot.{Slot}
use Rattle.tap_name.specs.Order.{AreAscending}
use Rattle.tap_name.specs.Settings.{SettingsValue}
use Rattle.tap_link.specs.declared.kind.Kind.{Kind}
use Rattle.tap_link.specs.declared.kind.Kind.TheVariants.{Pin, Settled}
use Rattle.tap_link.specs.Entry.{LinkEntry}
use Rattle.tap_link.specs.LinkSet.{is_pinned, is_settled, least_settled}
use Rattle.tap_table.specs.ByName.{by_name}
use Rattle.tap_table.specs.Table.{IsTable, TableValue, kind_in, links_at, place_of}
use Rattle.tap_table.proofs.AtRest.{All-filtered}
use Rattle.tap_table.proofs.ByName.{by_name-ascending, by_name_is_found, found_by_name}
use Rattle.tap_table.proofs.Found.{link_to, linked_is_name, linked_is_other}
use Rattle.tap_table.proofs.Primaries.{primary_near}
use Rattle.tap_watch.specs.Watch.{IsWatch}
use Rattle.tap_watch.proofs.Watches.{Contains-filter, IsWatch-filter}
use Rattle.tap_multicast.specs.declared.cover.Cover.{Cover}
use Rattle.tap_multicast.specs.Offer.{answered_slots, answers, has_slot, is_offered, left, offer, offered_as}
use Rattle.tap_multicast.specs.Targets.{is_primary}
use Rattle.tap_multicast.proofs.Answering.{has_slot-from_Contains}
use Rattle.tap_multicast.proofs.Linked.{picked-ascend, primary_near-stands, primary_stands}
use Rattle.tap_multicast.proofs.Picked.{picked-got}
use Rattle.tap_multicast.proofs.Telling.{differ, other_than, pinned_kind, primary_is}

-- a link that is offered: a pin on another node than the joiner, or the primary of an answered slot, with the flag
pub record IsOffered (t : TableValue) (watch : List Slot) (joiner : List ℕ) (link : Offered) : Type 0 where
  pub which : ((link.settled ≡ false) × (kind_in t link.name ≡ Some Pin) × (link.name ≢ joiner))
      ⊎ ((link.settled ≡ true) × (kind_in t link.name ≡ Some Settled) × (primary_near t link.name ≡ Some link.name)
      × (has_slot (answered_slots t joiner watch) (place_of t.owner link.name) ≡ true))

module _ (t : TableValue) (valid : IsTable t) (watch : List Slot) (cover : Cover) (first : cover.first ≡ true) where
  abbrev joiner : List ℕ
  joiner = cover.joiner

  found_offered : (e : LinkEntry (List ℕ)) → kind_in t e.target ≡ Some e.kind → is_offered t watch joiner e ≡ true
      → IsOffered t watch joiner (offered_as e)
  found_offered e found offered =
      let pin = is_pinned (Some e.kind) && not (pointwise nat_eq joiner e.target) in
      let primary = is_primary (primary_near t e.target) e.target in
      let slot_answered = has_slot (answered_slots t joiner watch) (place_of t.owner e.target) in
      record {
        which = elim (or_cases pin (slot_answered && primary) offered) [
          | inl now ↦
              let both = and_parts (is_pinned (Some e.kind)) (not (pointwise nat_eq joiner e.target)) now in
              let kind = pinned_kind e.kind both.0 in
              inl (ap (λ k. is_settled (Some k)) kind, found ∙ ap Some kind, other_than joiner e.target both.1)
          | inr now ↦
              let both = and_parts slot_answered primary now in
              let is = primary_is (primary_near t e.target) e.target both.1 in
              let stands = primary_near-stands t valid e.target e.target (linked_is_name t valid e.target e.kind found)
              (linked_is_other t valid e.target e.kind found) is in
              let kinds : Some e.kind ≡ Some Settled = sym found ∙ stands.0 in
              let kind : e.kind ≡ Settled = cc in
              inr (ap (λ k. is_settled (Some k)) kind, stands.0, is, both.0)
        ];
      }

  -- each link of the offer is one
  pub offers_are : All (IsOffered t watch joiner) (offer t watch cover)
  offers_are =
      rw first
      (All-map (IsOffered t watch joiner) offered_as (filter (is_offered t watch joiner) (by_name t))
      (All-filtered (is_offered t watch joiner) (λ e. kind_in t e.target ≡ Some e.kind) (λ e. IsOffered t watch joiner (offered_as e))
      (by_name t) (by_name_is_found t valid) found_offered))

  -- the offer ascends by name, as the links of a Hello do
  pub offer_ascends : AreAscending (map (λ link. link.name) (offer t watch cover))
  offer_ascends =
      rw first
      (picked-ascend offered_as (λ (link : Offered). link.name) (λ e. refl) (is_offered t watch joiner) (by_name t)
      (by_name-ascending t valid))

  link_offered : (name : List ℕ) (kind : Kind) → kind_in t name ≡ Some kind → is_offered t watch joiner (link_to name kind) ≡ true
      → (k : ℕ) × (slice_get (offer t watch cover) k ≡ Some (offered_as (link_to name kind)))
  link_offered name kind found offered =
      let link = found_by_name t valid name kind found in
      let got = picked-got offered_as (is_offered t watch joiner) (by_name t) link.0 (link_to name kind) link.1 offered in
      (got.0, rw first got.1)

  -- each pin but the joiner is offered
  pub pin_offered : (name : List ℕ) → name ≢ joiner → kind_in t name ≡ Some Pin
      → (k : ℕ) × (slice_get (offer t watch cover) k ≡ Some (record { name = name; settled = false }))
  pin_offered name not_joiner pinned = link_offered name Pin pinned (rw (differ joiner name not_joiner) refl)

  -- and the primary of each answered slot
  pub primary_offered : (slot : Slot) → slot.digit < t.settings.base → Contains (answered_slots t joiner watch) slot → (name : List ℕ)
      → least_settled (links_at t slot) ≡ Some name
      → (k : ℕ) × (slice_get (offer t watch cover) k ≡ Some (record { name = name; settled = true }))
  primary_offered slot below there name is =
      let stands = primary_stands t valid slot below name is in
      let primary : primary_near t name ≡ Some name = ap (λ s. least_settled (links_at t s)) stands.1 ∙ is in
      let test : is_primary (primary_near t name) name ≡ true = rw primary ((bytes_eq-Decides name name).1 refl) in
      let has : has_slot (answered_slots t joiner watch) (place_of t.owner name) ≡ true =
      ap (has_slot (answered_slots t joiner watch)) stands.1 ∙ has_slot-from_Contains (answered_slots t joiner watch) slot there in
      link_offered name Settled stands.0 (rw (has, test) refl)

  -- a slot that isn't answered stays watched, and one that is answered doesn't
  pub left_exactly : (slot : Slot) → Contains (left t watch cover) slot ↔ (Contains watch slot × (answers t joiner slot ≡ false))
  left_exactly slot =
      let test = Contains-filter (λ s. not (answers t joiner s)) watch slot in
      rw first (
        λ there. let both = test.0 there in (both.0, not-true (answers t joiner slot) both.1),
        λ (there, not_answered). test.1 (there, not_from_false (answers t joiner slot) not_answered),
      )

-- another cover offers nothing, and leaves the watch as it is
module _ (t : TableValue) (watch : List Slot) (cover : Cover) where
  pub no_offer : cover.first ≡ false → offer t watch cover ≡ []
  no_offer again = rw again refl

  pub all_left : cover.first ≡ false → left t watch cover ≡ watch
  all_left again = rw again refl

  -- what is left is a watch of the joiner, as it was
  pub left_is_watch : (p : SettingsValue) (joiner : List ℕ) (prefix : ℕ) → IsWatch p joiner prefix watch
      → IsWatch p joiner prefix (left t watch cover)
  left_is_watch p joiner prefix is =
      elim (cases_Bool cover.first) [
        | inl first ↦ rw first (IsWatch-filter p joiner prefix (λ slot. not (answers t cover.joiner slot)) watch is)
        | inr again ↦ rw again is
      ]
