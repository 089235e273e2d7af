-- To whom a cast is sent on: each of them is a primary, or a pin of a slot without one; and all of these are told.
-- Cited above: IsTarget, pin_told, primary_told, targets_are
use Rattle.std.proofs.Common.{◌≡◌, ◌≢◌, ◌⊎◌, ℕ, ◌+◌, ◌<◌, ◌≤◌, zero, suc, nat_le, nat_lt, true, false, Option, None, Some, List, [], ◌∷◌, map, filter, get_or, slice_get, All, arith, ap, sym, refl, ◌∙◌, inl, inr}
use Rattle.std.specs.List.{flat_map}
use Rattle.std.specs.Option.{option_map}
use Rattle.std.proofs.lemmas.Bool.{and_parts, cases_Bool, cases_lt, le-leb, le-ltb, leb-true, lt-leb, ltb-true}
use Rattle.std.proofs.lemmas.Cmp.{nat_list_cmp_total}
use Rattle.std.proofs.lemmas.List.Elements.{All-cons, All-map, All-nil}
use Rattle.std.proofs.lemmas.Option.{slice_get-get_or, slice_get-map}
use Rattle.tap_name.specs.declared.slot.Slot.{Slot}
use Rattle.tap_name.specs.Name.{IsName}
use Rattle.tap_name.specs.Prefix.{lcp}
use Rattle.tap_name.proofs.Prefixes.{lcp-differs, lcp-is}
use Rattle.tap_link.specs.declared.kind.Kind.{Kind}
use Rattle.tap_link.specs.declared.kind.Kind.TheVariants.{Leaving, Pin, Settled}
use Rattle.tap_link.specs.Entry.{LinkEntry}
use Rattle.tap_link.specs.LinkSet.{is_pinned, least_settled}
use Rattle.tap_link.proofs.Least.{least_settled_is}
use Rattle.tap_table.specs.ByName.{slots_by_name}
use Rattle.tap_table.specs.Table.{IsTable, SlotLinks, TableValue, kind_in, links_at, links_near, name_cmp, place_of, slot_number}
use Rattle.tap_table.proofs.AtRest.{All-filtered}
use Rattle.tap_table.proofs.ByName.{slot_visited, slots_inside}
use Rattle.tap_table.proofs.Flat.{All-flat_map, got-flat_map}
use Rattle.tap_table.proofs.Found.{kind_of_target, link_found, link_to, linked_is_name, linked_is_other, slot_is_own, target_is_name, target_is_other}
use Rattle.tap_table.proofs.Primaries.{primary_near}
use Rattle.tap_table.proofs.Slots.{number_back, place_inside}
use Rattle.tap_table.specs.Levels.{is_between}
use Rattle.tap_cast.specs.declared.target.CastTarget.{CastTarget}
use Rattle.tap_cast.specs.Targets.{cast_targets, pins_of, primary_or_pins, slot_targets, told_at, targets_between}

-- a node to which a cast is sent on over the levels from one on and below another
pub record IsTarget (t : TableValue) (from to : ℕ) (target : CastTarget) : Type 0 where
  pub is_name : IsName t.settings target.to
  pub other : target.to ≢ t.owner
  pub level : lcp t.owner target.to + 1 ≡ target.level
  pub above : from < target.level
  pub within : target.level ≤ to
  -- it is the primary of its slot, or a pin of a slot without one
  pub which : (primary_near t target.to ≡ Some target.to) ⊎ ((primary_near t target.to ≡ None) × (kind_in t target.to ≡ Some Pin))

pinned_kind : (kind : Kind) → is_pinned (Some kind) ≡ true → kind ≡ Pin
pinned_kind Pin is = refl
pinned_kind Settled is = cc
pinned_kind Leaving is = cc

-- a level that passes is one of these
level_parts : (from to level : ℕ) → is_between from to level ≡ true → (from ≤ level) × (level < to)
level_parts from to level is =
    let parts = and_parts (nat_le from level) (nat_lt level to) is in (leb-true from level parts.0, ltb-true level to parts.1)

-- a pin is among the pins
pin_listed : (links : SlotLinks) (i : ℕ) (e : LinkEntry (List ℕ)) → slice_get links i ≡ Some e → is_pinned (Some e.kind) ≡ true
    → (j : ℕ) × (slice_get (pins_of links) j ≡ Some e.target)
pin_listed [] i e got pinned = cc
pin_listed (f ∷ links) zero e got pinned =
    let same : f ≡ e = cc in
    let here : is_pinned (Some f.kind) ≡ true = ap (λ (x : LinkEntry (List ℕ)). is_pinned (Some x.kind)) same ∙ pinned in
    (0, rw here (ap (λ (x : LinkEntry (List ℕ)). Some x.target) same))
pin_listed (f ∷ links) (suc i) e got pinned =
    let rest = pin_listed links i e got pinned in
    elim (cases_Bool (is_pinned (Some f.kind))) [
      | inl here ↦ (suc rest.0, rw here rest.1)
      | inr other ↦ (rest.0, rw other rest.1)
    ]

module _ (t : TableValue) (valid : IsTable t) (from to : ℕ) where
  -- a link of a slot of these levels is a target, if it is the slot's primary or one of its pins without one
  of_link : (slot : Slot) → slot.digit < t.settings.base → is_between from to slot.level ≡ true → (i : ℕ) (e : LinkEntry (List ℕ))
      → slice_get (links_at t slot) i ≡ Some e
      → (least_settled (links_at t slot) ≡ Some e.target) ⊎ ((least_settled (links_at t slot) ≡ None) × (e.kind ≡ Pin))
      → IsTarget t from to (told_at (slot.level + 1) e.target)
  of_link slot below between i e got which =
      let number = slot_number t.settings.base slot in
      let place : place_of t.owner e.target ≡ slot =
      sym (slot_is_own t valid number e i got) ∙ number_back t.settings.base slot below in
      let level = lcp-is t.owner e.target ∙ ap (λ (s : Slot). s.level) place in
      let parts = level_parts from to slot.level between in
      let primary : primary_near t e.target ≡ least_settled (links_at t slot) = ap (λ s. least_settled (links_at t s)) place in
      record {
        is_name = target_is_name t valid number e i got;
        other = target_is_other t valid number e i got;
        level = ap (λ l. l + 1) level;
        above = omega (arith, parts.0);
        within = omega (arith, parts.1);
        which = elim which [
          | inl first ↦ inl (primary ∙ first)
          | inr pin ↦ inr (primary ∙ pin.0, kind_of_target t valid number e i got ∙ ap Some pin.1)
        ];
      }

  slot_all : (slot : Slot) → slot.digit < t.settings.base → is_between from to slot.level ≡ true
      → All (IsTarget t from to) (slot_targets t slot)
  slot_all slot below between = by_primary (least_settled (links_at t slot)) refl
    where
      by_primary : (found : Option (List ℕ)) → least_settled (links_at t slot) ≡ found
          → All (IsTarget t from to) (map (told_at (slot.level + 1)) (primary_or_pins found (links_at t slot)))
      by_primary None none =
          let links = links_at t slot in
          let Told : List ℕ → Type 0 = λ name. IsTarget t from to (told_at (slot.level + 1) name) in
          let Listed : LinkEntry (List ℕ) → Type 0 = λ e. (i : ℕ) × (slice_get links i ≡ Some e) in
          let pinned_links = filter (λ (e : LinkEntry (List ℕ)). is_pinned (Some e.kind)) links in
          let told = All-filtered (λ e. is_pinned (Some e.kind)) Listed (λ e. Told e.target) links
          (λ k d within. (k, slice_get-get_or links k d within))
          (λ e listed pinned. of_link slot below between listed.0 e listed.1 (inr (none, pinned_kind e.kind pinned))) in
          All-map (IsTarget t from to) (told_at (slot.level + 1)) (pins_of links)
          (All-map Told (λ (e : LinkEntry (List ℕ)). e.target) pinned_links told)
      by_primary (Some first) is =
          let links = links_at t slot in
          let least = least_settled_is name_cmp nat_list_cmp_total links first
          (valid.sets (slot_number t.settings.base slot)).ascending is in
          let link = link_found links first Settled least.settled in
          All-cons (IsTarget t from to) (told_at (slot.level + 1) first) []
          (of_link slot below between link.0 (link_to first Settled) link.1 (inl is)) (All-nil (IsTarget t from to))

  -- each target is one: at a level above the given one, and not the owner
  pub targets_are : All (IsTarget t from to) (cast_targets t from to)
  targets_are =
      All-flat_map (targets_between t from to) (IsTarget t from to) (slots_by_name t.settings t.owner) (λ k d within.
      let slot = get_or (slots_by_name t.settings t.owner) k d in
      let inside = slots_inside t.settings t.owner valid.owner k d within in
      elim (cases_Bool (is_between from to slot.level)) [
        | inl between ↦ rw between (slot_all slot inside.1 between)
        | inr beyond ↦ rw beyond (All-nil (IsTarget t from to))
      ])

  module _ (name : List ℕ) (kind : Kind) (found : kind_in t name ≡ Some kind) (between : is_between from to (lcp t.owner name) ≡ true) where
    abbrev slot : Slot
    slot = place_of t.owner name

    level_is : lcp t.owner name ≡ slot.level
    level_is = lcp-is t.owner name

    visited : (i : ℕ) × (slice_get (slots_by_name t.settings t.owner) i ≡ Some slot)
    visited =
        let is_name = linked_is_name t valid name kind found in
        let apart = linked_is_other t valid name kind found in
        let inside = place_inside t.settings t.owner name valid.owner is_name apart in
        let level = level_is in
        let differs : get_or t.owner slot.level 0 ≡ slot.digit → ⊥ = λ same.
        lcp-differs t.owner name (omega (arith, level, inside.0, valid.owner.len)) (omega (arith, level, inside.0, is_name.len))
        (rw level same) in
        slot_visited t.settings t.owner valid.owner slot inside differs

    slot_told : (j : ℕ) (target : CastTarget) → slice_get (slot_targets t slot) j ≡ Some target
        → (k : ℕ) × (slice_get (cast_targets t from to) k ≡ Some target)
    slot_told j target got =
        let passes : is_between from to slot.level ≡ true = ap (is_between from to) (sym level_is) ∙ between in
        got-flat_map (targets_between t from to) (slots_by_name t.settings t.owner) visited.0 slot j target visited.1 (rw passes got)

    -- if there is a link, at one of these levels, the primary of its slot is told
    pub primary_told : (first : List ℕ) → primary_near t name ≡ Some first
        → (k : ℕ) × (slice_get (cast_targets t from to) k ≡ Some (told_at (lcp t.owner name + 1) first))
    primary_told first is =
        slot_told 0 (told_at (lcp t.owner name + 1) first)
        (rw is (ap (λ l. Some (told_at (l + 1) first)) (sym level_is)))

    -- and if the slot has none, the link itself, if it is a pin
    pub pin_told : primary_near t name ≡ None → kind ≡ Pin
        → (k : ℕ) × (slice_get (cast_targets t from to) k ≡ Some (told_at (lcp t.owner name + 1) name))
    pin_told none pin =
        let link = link_found (links_near t name) name kind found in
        let pinned : is_pinned (Some kind) ≡ true = ap (λ k. is_pinned (Some k)) pin in
        let place = pin_listed (links_near t name) link.0 (link_to name kind) link.1 pinned in
        let of_level : ℕ → CastTarget = λ l. told_at (l + 1) name in
        let listed : slice_get (map (told_at (slot.level + 1)) (pins_of (links_near t name))) place.0 ≡ Some (of_level slot.level) =
        slice_get-map (told_at (slot.level + 1)) (pins_of (links_near t name)) place.0
        ∙ ap (option_map (told_at (slot.level + 1))) place.1 in
        slot_told place.0 (of_level (lcp t.owner name)) (rw none (listed ∙ ap (λ l. Some (of_level l)) (sym level_is)))

-- no slot is at a level that isn't below the last one: a copy at the number of digits, or at the kept level, has no targets
no_level : (from to level : ℕ) → to ≤ from → is_between from to level ≡ false
no_level from to level none =
    elim (cases_lt level from) [
      | inl below ↦ rw (lt-leb from level below) refl
      | inr above ↦ rw (le-leb from level above, le-ltb level to (omega (arith, above, none))) refl
    ]

no_slot : (t : TableValue) (from to : ℕ) (slots : List Slot) → to ≤ from → flat_map (targets_between t from to) slots ≡ []
no_slot t from to [] none = refl
no_slot t from to (slot ∷ slots) none = rw (no_level from to slot.level none) (no_slot t from to slots none)

pub no_targets : (t : TableValue) (from to : ℕ) → to ≤ from → cast_targets t from to ≡ []
no_targets t from to none = no_slot t from to (slots_by_name t.settings t.owner) none
