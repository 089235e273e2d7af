-- Slot by slot in the order of the names that fit, the links of a table ascend by name, and each of them is there.
-- Cited above: by_name-ascending, by_name_is_found, found_by_name, slot_visited, slots_inside
use Rattle.std.proofs.Common.{◌≡◌, inl, inr, ℕ, ◌+◌, ◌-◌, ◌*◌, ◌<◌, ◌≤◌, nat_lt, false, Some, List, length, get_or, slice_get, All, AllPairs, arith, ap, sym, refl, subst, ◌∙◌}
use Rattle.std.specs.List.{range_with_len}
use Rattle.std.proofs.lemmas.Bool.{cases_Bool, cases_lt, cases_order, lt-ltb, le-ltb, ltb-false, ltb-true}
use Rattle.std.proofs.lemmas.List.FromFn.{get_or-map-range_with_len, get_or-range_with_len, length-map-range_with_len, length-range_with_len}
use Rattle.std.proofs.lemmas.Option.{slice_get-get_or}
use Rattle.tap_name.specs.declared.slot.Slot.{Slot}
use Rattle.tap_name.specs.Name.{IsName}
use Rattle.tap_name.specs.Order.{IsBelow}
use Rattle.tap_name.specs.Prefix.{lcp}
use Rattle.tap_name.specs.Settings.{SettingsValue}
use Rattle.tap_name.proofs.Orders.{below-digits}
use Rattle.tap_name.proofs.Near.{ball-both}
use Rattle.tap_name.proofs.Prefixes.{lcp-differs, lcp-digits, lcp-is}
use Rattle.tap_link.specs.declared.kind.Kind.{Kind}
use Rattle.tap_link.specs.Entry.{LinkEntry}
use Rattle.tap_link.specs.LinkSet.{LinksAscend}
use Rattle.tap_table.specs.declared.slot_range.SlotRange.{SlotRange}
use Rattle.tap_table.specs.ByName.{by_name, range_by_name, slots_by_name, slots_in}
use Rattle.tap_table.specs.Table.{IsTable, TableValue, kind_in, links_at, links_near, name_cmp, place_of, slot_number}
use Rattle.tap_table.proofs.Flat.{All-flat_map, AllPairs-flat_map, got-flat_map}
use Rattle.tap_table.proofs.Found.{kind_of_target, link_found, link_to, linked_is_name, linked_is_other, slot_is_own, target_is_name}
use Rattle.tap_table.proofs.Slots.{number_back, place_inside}

-- a name is below another that shares some digits with it and has a greater one there
pub below_at : (a b : List ℕ) (level : ℕ) → length a ≡ length b → level < length a → level ≤ lcp a b
    → get_or a level 0 < get_or b level 0 → IsBelow a b
below_at a b level len within shared less =
    let level_is : lcp a b ≡ level =
    elim (cases_lt level (lcp a b)) [
      | inl more ↦ let same = lcp-digits a b level more in absurd (omega arith)
      | inr most ↦ omega arith
    ] in
    (below-digits a b len).1 (rw level_is less)

-- where the slots of two names stand to each other as their names do
pub data Leads (owner : List ℕ) (s u : Slot) : Type 0 where
  up : s.level < u.level → s.digit < get_or owner s.level 0 → Leads owner s u
  across : s.level ≡ u.level → s.digit < u.digit → Leads owner s u
  down : u.level < s.level → get_or owner u.level 0 < u.digit → Leads owner s u

-- a name that fits a slot of the owner
pub record Stands (p : SettingsValue) (owner : List ℕ) (slot : Slot) (name : List ℕ) : Type 0 where
  pub is_name : IsName p name
  pub level : lcp owner name ≡ slot.level
  pub digit : get_or name slot.level 0 ≡ slot.digit
  pub inside : slot.level < p.digits

leads_below : (p : SettingsValue) (owner : List ℕ) (s u : Slot) (a b : List ℕ) → Stands p owner s a → Stands p owner u b
    → Leads owner s u → IsBelow a b
leads_below p owner s u a b sa ub (up lower less) =
    let shared = ball-both owner a b s.level (omega (arith, sa.level)) (omega (arith, ub.level)) in
    let own = lcp-digits owner b s.level (omega (arith, ub.level)) in
    below_at a b s.level (sa.is_name.len ∙ sym ub.is_name.len) (omega (arith, sa.inside, sa.is_name.len)) shared
    (omega (arith, sa.digit, own, less))
leads_below p owner s u a b sa ub (across same less) =
    let shared = ball-both owner a b s.level (omega (arith, sa.level)) (omega (arith, ub.level, same)) in
    let there : get_or b s.level 0 ≡ u.digit = ap (λ l. get_or b l 0) same ∙ ub.digit in
    below_at a b s.level (sa.is_name.len ∙ sym ub.is_name.len) (omega (arith, sa.inside, sa.is_name.len)) shared
    (omega (arith, sa.digit, there, less))
leads_below p owner s u a b sa ub (down lower more) =
    let shared = ball-both owner a b u.level (omega (arith, sa.level)) (omega (arith, ub.level)) in
    let own = lcp-digits owner a u.level (omega (arith, sa.level)) in
    below_at a b u.level (sa.is_name.len ∙ sym ub.is_name.len) (omega (arith, ub.inside, sa.is_name.len)) shared
    (omega (arith, ub.digit, own, more))

-- the slots of the range at a place: going up, or going down
pub data Visited (p : SettingsValue) (owner : List ℕ) (i : ℕ) (s : Slot) : Type 0 where
  going_up : i < p.digits → s.level ≡ i → s.digit < get_or owner s.level 0 → Visited p owner i s
  going_down : p.digits ≤ i → s.level + 1 + i ≡ 2 * p.digits → get_or owner s.level 0 < s.digit → s.digit < p.base → Visited p owner i s

module _ (p : SettingsValue) (owner : List ℕ) (is_owner : IsName p owner) where
  abbrev range : ℕ → SlotRange
  range = range_by_name p owner

  up_is : (i : ℕ) → i < p.digits → range i ≡ record { level = i; from = 0; to = get_or owner i 0 }
  up_is i inside = rw (lt-ltb i p.digits inside) refl

  down_is : (i : ℕ) → nat_lt i p.digits ≡ false
      → range i ≡ record { level = 2 * p.digits - 1 - i; from = get_or owner (2 * p.digits - 1 - i) 0 + 1; to = p.base }
  down_is i past = rw past refl

  -- how many slots a range has, and the slot at a place of it
  length-slots_in : (r : SlotRange) → length (slots_in r) ≡ r.to - r.from
  length-slots_in r =
      let at : ℕ → Slot = λ digit. record { level = r.level; digit = digit } in
      length-map-range_with_len at r.from (r.to - r.from)

  slot_in : (r : SlotRange) (k : ℕ) (d : Slot) → k < length (slots_in r)
      → get_or (slots_in r) k d ≡ record { level = r.level; digit = r.from + k }
  slot_in r k d within =
      let len = length-slots_in r in
      get_or-map-range_with_len (λ digit. record { level = r.level; digit = digit }) r.from (r.to - r.from) k (r.from + k) d
      (omega arith) refl

  visited : (i : ℕ) → i < 2 * p.digits → All (Visited p owner i) (slots_in (range i))
  visited i inside k d within =
      let P : Slot → Type 0 = Visited p owner i in
      let slot = slot_in (range i) k d within in
      let len = length-slots_in (range i) in
      elim (cases_Bool (nat_lt i p.digits)) [
        | inl test ↦
            let here = ltb-true i p.digits test in
            let is = up_is i here in
            let level = ap (λ (r : SlotRange). r.level) is in
            let from = ap (λ (r : SlotRange). r.from) is in
            let to = ap (λ (r : SlotRange). r.to) is in
            let own : get_or owner (range i).level 0 ≡ get_or owner i 0 = ap (λ l. get_or owner l 0) level in
            subst P (sym slot) (going_up here level (omega (arith, len, level, from, to, own, within)))
        | inr test ↦
            let past = ltb-false i p.digits test in
            let is = down_is i test in
            let level = ap (λ (r : SlotRange). r.level) is in
            let from = ap (λ (r : SlotRange). r.from) is in
            let to = ap (λ (r : SlotRange). r.to) is in
            let own : get_or owner (range i).level 0 ≡ get_or owner (2 * p.digits - 1 - i) 0 = ap (λ l. get_or owner l 0) level in
            subst P (sym slot) (going_down past (omega (arith, level, past, inside)) (omega (arith, from, own))
            (omega (arith, len, from, to, within)))
      ]

  -- slots of one range lead each other by their digits
  leads_within : (r : SlotRange) → AllPairs (Leads owner) (slots_in r)
  leads_within r i j d before within =
      let first = slot_in r i d (omega arith) in
      let second = slot_in r j d within in
      rw (first, second) (across refl (omega arith))

  leads_between : (i j : ℕ) (s u : Slot) → i < j → Visited p owner i s → Visited p owner j u → Leads owner s u
  leads_between i j s u before (going_up inside level less) (going_up inside' level' less') = up (omega arith) less
  leads_between i j s u before (going_up inside level less) (going_down past level' more below) =
      elim (cases_order s.level u.level) [
        | inl same ↦
            let own : get_or owner s.level 0 ≡ get_or owner u.level 0 = ap (λ l. get_or owner l 0) same in
            across same (omega (arith, own, less, more))
        | inr (inl lower) ↦ up lower less
        | inr (inr higher) ↦ down higher more
      ]
  leads_between i j s u before (going_down past level more below) (going_up inside level' less) = absurd (omega arith)
  leads_between i j s u before (going_down past level more below) (going_down past' level' more' below') =
      down (omega arith) more'

  place_is : (i d : ℕ) → i < 2 * p.digits → get_or (range_with_len 0 (2 * p.digits)) i d ≡ i
  place_is i d inside = get_or-range_with_len 0 (2 * p.digits) i d inside ∙ omega arith

  abbrev places : List ℕ
  places = range_with_len 0 (2 * p.digits)

  -- each slot that is visited leads those that are visited later
  pub slots_lead : AllPairs (Leads owner) (slots_by_name p owner)
  slots_lead =
      AllPairs-flat_map (λ i. slots_in (range i)) (Leads owner) places (λ k d within. leads_within (range (get_or places k d)))
      (λ i j d before within.
      let len = length-range_with_len 0 (2 * p.digits) in
      let in_i : i < 2 * p.digits = omega arith in
      let in_j : j < 2 * p.digits = omega arith in
      rw (place_is i d in_i, place_is j d in_j) (λ k e inside m f inside'.
      leads_between i j _ _ before (visited i in_i k e inside) (visited j in_j m f inside')))

  abbrev InTable : Slot → Type 0
  InTable s = (s.level < p.digits) × (s.digit < p.base)

  visited_in : (i : ℕ) (s : Slot) → Visited p owner i s → InTable s
  visited_in i s (going_up inside level less) =
      let own = is_owner.below s.level 0 (omega (arith, is_owner.len)) in (omega arith, omega arith)
  visited_in i s (going_down past level more below) = (omega arith, below)

  pub slots_inside : All InTable (slots_by_name p owner)
  slots_inside =
      All-flat_map (λ i. slots_in (range i)) InTable places (λ i d within.
      let len = length-range_with_len 0 (2 * p.digits) in
      let inside : i < 2 * p.digits = omega arith in
      rw (place_is i d inside) (λ k e there. visited_in i (get_or (slots_in (range i)) k e) (visited i inside k e there)))

  -- each slot of a table but those of the owner's own digits is visited
  slot_listed : (r : SlotRange) (k : ℕ) → r.from + k < r.to
      → slice_get (slots_in r) k ≡ Some (record { level = r.level; digit = r.from + k })
  slot_listed r k inside =
      let len = length-slots_in r in
      let d : Slot = record { level = 0; digit = 0 } in
      let within : k < length (slots_in r) = omega arith in
      slice_get-get_or (slots_in r) k d within ∙ ap Some (slot_in r k d within)

  place_listed : (i : ℕ) → i < 2 * p.digits → slice_get places i ≡ Some i
  place_listed i inside =
      let len = length-range_with_len 0 (2 * p.digits) in
      slice_get-get_or places i 0 (omega arith) ∙ ap Some (place_is i 0 inside)

  pub slot_visited : (s : Slot) → InTable s → (get_or owner s.level 0 ≡ s.digit → ⊥)
      → (i : ℕ) × (slice_get (slots_by_name p owner) i ≡ Some s)
  slot_visited s inside other =
      let own = get_or owner s.level 0 in
      let of_digit : ℕ → Slot = λ d. record { level = s.level; digit = d } in
      elim (cases_lt s.digit own) [
        | inl less ↦
            let r : SlotRange = record { level = s.level; from = 0; to = own } in
            let here = ap (λ x. slice_get (slots_in x) s.digit) (up_is s.level inside.0) ∙ slot_listed r s.digit (omega arith)
            ∙ ap (λ d. Some (of_digit d)) (omega arith) in
            got-flat_map (λ i. slots_in (range i)) places s.level s.level s.digit s
            (place_listed s.level (omega (arith, inside.0))) here
        | inr not_less ↦
            let i = 2 * p.digits - 1 - s.level in
            let k = s.digit - own - 1 in
            let level : 2 * p.digits - 1 - i ≡ s.level = omega (arith, inside.0) in
            let past : nat_lt i p.digits ≡ false = le-ltb i p.digits (omega (arith, inside.0)) in
            let of_level : ℕ → SlotRange = λ l. record { level = l; from = get_or owner l 0 + 1; to = p.base } in
            let is = down_is i past ∙ ap of_level level in
            let here = ap (λ x. slice_get (slots_in x) k) is ∙ slot_listed (of_level s.level) k (omega (arith, other, inside.1))
            ∙ ap (λ d. Some (of_digit d)) (omega (arith, other)) in
            got-flat_map (λ j. slots_in (range j)) places i i k s (place_listed i (omega (arith, inside.0))) here
      ]

module _ (t : TableValue) (valid : IsTable t) where
  abbrev slots : List Slot
  slots = slots_by_name t.settings t.owner

  -- a link of a slot stands there
  stands_at : (s : Slot) → (s.level < t.settings.digits) × (s.digit < t.settings.base) → (k : ℕ) (d : LinkEntry (List ℕ))
      → k < length (links_at t s) → Stands t.settings t.owner s (get_or (links_at t s) k d).target
  stands_at s inside k d within =
      let e = get_or (links_at t s) k d in
      let number = slot_number t.settings.base s in
      let got = slice_get-get_or (links_at t s) k d within in
      let place : place_of t.owner e.target ≡ s =
      sym (slot_is_own t valid number e k got) ∙ number_back t.settings.base s inside.1 in
      let level = ap (λ (x : Slot). x.level) place in
      let digit = ap (λ (x : Slot). x.digit) place in
      record {
        is_name = target_is_name t valid number e k got;
        level = lcp-is t.owner e.target ∙ level;
        digit = sym (ap (λ l. get_or e.target l 0) level) ∙ digit;
        inside = inside.0;
      }

  -- the links by name ascend
  pub by_name-ascending : LinksAscend name_cmp (by_name t)
  by_name-ascending =
      AllPairs-flat_map (links_at t) (λ e f. IsBelow e.target f.target) slots
      (λ k d within. (valid.sets (slot_number t.settings.base (get_or slots k d))).ascending)
      (λ i j d before within k e inside m f inside'.
      let in_table = slots_inside t.settings t.owner valid.owner in
      leads_below t.settings t.owner (get_or slots i d) (get_or slots j d) _ _
      (stands_at (get_or slots i d) (in_table i d (omega arith)) k e inside)
      (stands_at (get_or slots j d) (in_table j d within) m f inside')
      (slots_lead t.settings t.owner valid.owner i j d before within))

  -- and are the links that look-ups find
  pub by_name_is_found : All (λ e. kind_in t e.target ≡ Some e.kind) (by_name t)
  by_name_is_found =
      All-flat_map (links_at t) (λ e. kind_in t e.target ≡ Some e.kind) slots (λ i d within k e inside.
      let s = get_or slots i d in
      let got = slice_get-get_or (links_at t s) k e inside in
      kind_of_target t valid (slot_number t.settings.base s) (get_or (links_at t s) k e) k got)

  pub found_by_name : (name : List ℕ) (kind : Kind) → kind_in t name ≡ Some kind
      → (i : ℕ) × (slice_get (by_name t) i ≡ Some (link_to name kind))
  found_by_name name kind found =
      let link = link_found (links_near t name) name kind found in
      let is_name = linked_is_name t valid name kind found in
      let apart = linked_is_other t valid name kind found in
      let s = place_of t.owner name in
      let inside = place_inside t.settings t.owner name valid.owner is_name apart in
      let level = lcp-is t.owner name in
      let differs : get_or t.owner s.level 0 ≡ s.digit → ⊥ = λ same.
      lcp-differs t.owner name (omega (arith, level, inside.0, valid.owner.len)) (omega (arith, level, inside.0, is_name.len))
      (rw level same) in
      let slot = slot_visited t.settings t.owner valid.owner s inside differs in
      got-flat_map (links_at t) slots slot.0 s link.0 (link_to name kind) slot.1 link.1
