-- The first settled link above a level, slot by slot.
use Rattle.std.proofs.Common.{◌≡◌, ℕ, ◌+◌, ◌*◌, ◌<◌, ◌≤◌, nat_lt, true, false, Option, None, Some, List, [], ◌∷◌, ◌++◌, All, is_some, arith, ap, sym, refl, ◌∙◌, inl, inr}
use Rattle.std.specs.List.{find}
use Rattle.std.specs.Option.{option_map, option_or}
use Rattle.std.proofs.lemmas.Bool.{cases_Bool, le-ltb, lt-ltb}
use Rattle.std.proofs.lemmas.List.Elements.{All-head, All-tail}
use Rattle.std.proofs.lemmas.List.Folds.{find-append}
use Rattle.tap_name.specs.Prefix.{lcp}
use Rattle.tap_link.specs.Entry.{LinkEntry}
use Rattle.tap_link.specs.LinkSet.{is_settled, least_settled}
use Rattle.tap_table.specs.declared.slot_range.SlotRange.{SlotRange}
use Rattle.tap_table.specs.ByName.{range_by_name}
use Rattle.tap_table.specs.Table.{IsTable, SlotLinks, TableValue, links_at}
use Rattle.tap_depart.specs.Replacement.{first_above, is_settled_above}
use Rattle.tap_table.proofs.LinksByName.{links_from, links_in, range_at_level, slot_at_level}
use Rattle.tap_table.proofs.Stepping.{from_digit, in_range-first, in_ranges-first, slot_of_range}

module _ {A : Type 0} where
  pub some_first : (found other : Option A) → is_some found ≡ true → option_or found other ≡ found
  some_first None other some = cc
  some_first (Some x) other some = refl

  pub none_first : (found other : Option A) → is_some found ≡ false → option_or found other ≡ other
  none_first None other none = refl
  none_first (Some x) other none = cc

option_map-or : {A B : Type 0} (f : A → B) (found other : Option A)
    → option_map f (option_or found other) ≡ option_or (option_map f found) (option_map f other)
option_map-or f None other = refl
option_map-or f (Some x) other = refl

module _ (owner : List ℕ) (level : ℕ) where
  pub first_above-append : (links others : SlotLinks)
      → first_above owner level (links ++ others) ≡ option_or (first_above owner level links) (first_above owner level others)
  first_above-append links others =
      let test = is_settled_above owner level in
      ap (option_map (λ (e : LinkEntry (List ℕ)). e.target)) (find-append test links others)
      ∙ option_map-or (λ (e : LinkEntry (List ℕ)). e.target) (find test links) (find test others)

  -- of links at one level above, it is the least settled one; of others there is none
  above : (at : ℕ) (links : SlotLinks) → nat_lt level at ≡ true → All (λ e. lcp owner e.target ≡ at) links
      → first_above owner level links ≡ least_settled links
  above at [] test all = refl
  above at (e ∷ links) test all =
      let here : lcp owner e.target ≡ at = All-head (λ f. lcp owner f.target ≡ at) e links all in
      elim (cases_Bool (is_settled (Some e.kind))) [
        | inl settled ↦ rw (here, test, settled) refl
        | inr other ↦ rw (here, test, other) (above at links test (All-tail (λ f. lcp owner f.target ≡ at) e links all))
      ]

  below : (at : ℕ) (links : SlotLinks) → nat_lt level at ≡ false → All (λ e. lcp owner e.target ≡ at) links
      → first_above owner level links ≡ None
  below at [] test all = refl
  below at (e ∷ links) test all =
      let here : lcp owner e.target ≡ at = All-head (λ f. lcp owner f.target ≡ at) e links all in
      elim (cases_Bool (is_settled (Some e.kind))) [
        | inl settled ↦ rw (here, test, settled) (below at links test (All-tail (λ f. lcp owner f.target ≡ at) e links all))
        | inr other ↦ rw (here, test, other) (below at links test (All-tail (λ f. lcp owner f.target ≡ at) e links all))
      ]

module _ (t : TableValue) (valid : IsTable t) (level : ℕ) where
  abbrev first : SlotLinks → Option (List ℕ)
  first = first_above t.owner level

  -- of a range above the level, it is the primary of the first slot, if there is one, or else one of the others
  module _ (range : SlotRange) (digit : ℕ) (end : range.to ≤ t.settings.base) (higher : level < range.level) (inside : digit < range.to)
      (found : Option (List ℕ)) (is : found ≡ least_settled (links_at t (slot_of_range range digit))) where
    abbrev rest : Option (List ℕ)
    rest = first (links_in t (from_digit range (digit + 1)))

    first_in_slots : first (links_in t (from_digit range digit)) ≡ option_or found rest
    first_in_slots =
        let slot = slot_of_range range digit in
        let here = above t.owner level range.level (links_at t slot) (lt-ltb level range.level higher)
        (slot_at_level t valid slot (omega (arith, inside, end))) in
        ap first (in_range-first (links_at t) range digit inside)
        ∙ first_above-append t.owner level (links_at t slot) (links_in t (from_digit range (digit + 1)))
        ∙ ap (λ primary. option_or primary rest) (here ∙ sym is)

    pub first_is_primary : is_some found ≡ true → first (links_in t (from_digit range digit)) ≡ found
    first_is_primary some = first_in_slots ∙ some_first found rest some

    pub first_is_later : is_some found ≡ false → first (links_in t (from_digit range digit)) ≡ rest
    first_is_later none = first_in_slots ∙ none_first found rest none

  -- of all ranges from one on, it is that of the first range, if there is one, or else that of the others
  module _ (i : ℕ) (inside : i < 2 * t.settings.digits) (range : SlotRange) (is : range ≡ range_by_name t.settings t.owner i) where
    first_in_ranges : first (links_from t i) ≡ option_or (first (links_in t range)) (first (links_from t (i + 1)))
    first_in_ranges =
        let later = links_from t (i + 1) in
        ap first (in_ranges-first (links_at t) t.settings t.owner i inside)
        ∙ first_above-append t.owner level (links_in t (range_by_name t.settings t.owner i)) later
        ∙ ap (λ r. option_or (first (links_in t r)) (first later)) (sym is)

    pub first_of_range : is_some (first (links_in t range)) ≡ true → first (links_from t i) ≡ first (links_in t range)
    first_of_range some = first_in_ranges ∙ some_first (first (links_in t range)) (first (links_from t (i + 1))) some

    pub first_of_others : is_some (first (links_in t range)) ≡ false → first (links_from t i) ≡ first (links_from t (i + 1))
    first_of_others none = first_in_ranges ∙ none_first (first (links_in t range)) (first (links_from t (i + 1))) none

  -- a range that isn't above the level has none
  pub none_in_range : (range : SlotRange) → range.to ≤ t.settings.base → range.level ≤ level → first (links_in t range) ≡ None
  none_in_range range end lower =
      below t.owner level range.level (links_in t range) (le-ltb level range.level lower) (range_at_level t valid range end)
