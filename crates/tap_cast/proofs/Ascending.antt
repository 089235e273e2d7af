-- The targets of a cast ascend by name.
use Rattle.std.proofs.Common.{◌≡◌, ℕ, ◌+◌, Option, None, Some, List, [], ◌∷◌, ◌++◌, map, All, ap, sym, refl, subst, ◌∙◌, inl, inr}
use Rattle.std.specs.List.{flat_map}
use Rattle.std.proofs.lemmas.Bool.{cases_Bool}
use Rattle.std.proofs.lemmas.List.{map-append}
use Rattle.std.proofs.lemmas.List.Elements.{All-cons, All-head, All-nil, All-tail}
use Rattle.std.proofs.lemmas.List.Kept.{AllPairs-cons}
use Rattle.tap_name.specs.declared.slot.Slot.{Slot}
use Rattle.tap_name.specs.Order.{AreAscending, IsBelow}
use Rattle.tap_link.specs.Entry.{LinkEntry}
use Rattle.tap_link.specs.LinkSet.{is_pinned, is_settled, least_settled}
use Rattle.tap_table.specs.ByName.{slots_by_name, targets_of}
use Rattle.tap_table.specs.Table.{IsTable, SlotLinks, TableValue, links_at}
use Rattle.tap_table.proofs.Targets.{targets-ascending}
use Rattle.tap_table.specs.Levels.{is_between}
use Rattle.tap_cast.specs.declared.target.CastTarget.{CastTarget}
use Rattle.tap_cast.specs.Targets.{cast_targets, pins_of, primary_or_pins, slot_targets, told_at, targets_between}
use Rattle.tap_cast.proofs.Thinned.{AllPairs-thinned, pairs-first, pairs-nil, pairs-rest}

abbrev told_names : List CastTarget → List (List ℕ)
told_names targets = map (λ (target : CastTarget). target.to) targets

map-flat_map : {A X Y : Type 0} (f : X → Y) (g : A → List X) (parts : List A)
    → map f (flat_map g parts) ≡ flat_map (λ a. map f (g a)) parts
map-flat_map f g [] = refl
map-flat_map f g (a ∷ parts) = map-append f (g a) (flat_map g parts) ∙ ap (λ l. map f (g a) ++ l) (map-flat_map f g parts)

names_at : (level : ℕ) (names : List (List ℕ)) → told_names (map (told_at level) names) ≡ names
names_at level [] = refl
names_at level (name ∷ names) = ap (λ l. name ∷ l) (names_at level names)

module _ (P : List ℕ → Type 0) where
  all_pins : (links : SlotLinks) → All P (targets_of links) → All P (pins_of links)
  all_pins [] all = All-nil P
  all_pins (e ∷ links) all =
      let rest = all_pins links (All-tail P e.target (targets_of links) all) in
      elim (cases_Bool (is_pinned (Some e.kind))) [
        | inl pinned ↦ rw pinned (All-cons P e.target (pins_of links) (All-head P e.target (targets_of links) all) rest)
        | inr other ↦ rw other rest
      ]

  of_primary : (links : SlotLinks) (first : List ℕ) → least_settled links ≡ Some first → All P (targets_of links) → P first
  of_primary [] first is all = cc
  of_primary (e ∷ links) first is all =
      elim (cases_Bool (is_settled (Some e.kind))) [
        | inl settled ↦
            let found : Some e.target ≡ Some first = rw settled at is in
            let same : e.target ≡ first = cc in
            subst P same (All-head P e.target (targets_of links) all)
        | inr other ↦ of_primary links first (rw other at is) (All-tail P e.target (targets_of links) all)
      ]

pins_ascend : (links : SlotLinks) → AreAscending (targets_of links) → AreAscending (pins_of links)
pins_ascend [] up = pairs-nil IsBelow
pins_ascend (e ∷ links) up =
    let rest = pins_ascend links (pairs-rest IsBelow e.target (targets_of links) up) in
    let above = all_pins (IsBelow e.target) links (pairs-first IsBelow e.target (targets_of links) up) in
    elim (cases_Bool (is_pinned (Some e.kind))) [
      | inl pinned ↦ rw pinned (AllPairs-cons IsBelow e.target (pins_of links) above rest)
      | inr other ↦ rw other rest
    ]

one_ascends : (name : List ℕ) → AreAscending (name ∷ [])
one_ascends name = AllPairs-cons IsBelow name [] (All-nil (IsBelow name)) (pairs-nil IsBelow)

module _ (t : TableValue) (from to : ℕ) where
  abbrev told_in : Slot → List (List ℕ)
  told_in slot = told_names (targets_between t from to slot)

  told_of : (slot : Slot) → told_names (slot_targets t slot)
      ≡ primary_or_pins (least_settled (links_at t slot)) (links_at t slot)
  told_of slot = names_at (slot.level + 1) (primary_or_pins (least_settled (links_at t slot)) (links_at t slot))

  -- what a slot tells is some of its links, in their order
  all_told_in : (slot : Slot) (P : List ℕ → Type 0) → All P (targets_of (links_at t slot)) → All P (told_in slot)
  all_told_in slot P all =
      elim (cases_Bool (is_between from to slot.level)) [
        | inl between ↦ rw between (subst (All P) (sym (told_of slot)) (by_primary (least_settled (links_at t slot)) refl))
        | inr beyond ↦ rw beyond (All-nil P)
      ]
    where
      by_primary : (found : Option (List ℕ)) → least_settled (links_at t slot) ≡ found → All P (primary_or_pins found (links_at t slot))
      by_primary None is = all_pins P (links_at t slot) all
      by_primary (Some first) is = All-cons P first [] (of_primary P (links_at t slot) first is all) (All-nil P)

  told_in_ascends : (slot : Slot) → AreAscending (targets_of (links_at t slot)) → AreAscending (told_in slot)
  told_in_ascends slot up =
      elim (cases_Bool (is_between from to slot.level)) [
        | inl between ↦ rw between (subst AreAscending (sym (told_of slot)) (by_primary (least_settled (links_at t slot))))
        | inr beyond ↦ rw beyond (pairs-nil IsBelow)
      ]
    where
      by_primary : (found : Option (List ℕ)) → AreAscending (primary_or_pins found (links_at t slot))
      by_primary None = pins_ascend (links_at t slot) up
      by_primary (Some first) = one_ascends first

  module _ (valid : IsTable t) where
    -- so the targets ascend, and no node is told twice
    pub targets_ascend : AreAscending (told_names (cast_targets t from to))
    targets_ascend =
        let slots = slots_by_name t.settings t.owner in
        let links = map-flat_map (λ (e : LinkEntry (List ℕ)). e.target) (links_at t) slots in
        let targets = map-flat_map (λ (target : CastTarget). target.to) (targets_between t from to) slots in
        subst AreAscending (sym targets)
        (AllPairs-thinned (λ slot. targets_of (links_at t slot)) told_in all_told_in IsBelow told_in_ascends slots
        (subst AreAscending links (targets-ascending t valid)))
