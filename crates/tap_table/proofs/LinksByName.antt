-- The links of a table by name, from one range of slots on and from one slot of a range on, and the words for their targets.
-- Cited above: links_from, links_in, range_at_level, slot_at_level
use Rattle.std.proofs.Common.{◌≡◌, ℕ, ◌+◌, ◌-◌, ◌*◌, ◌<◌, ◌≤◌, false, List, [], ◌∷◌, ◌++◌, get_or, length, All, arith, ap, sym, refl, ◌∙◌}
use Rattle.std.proofs.lemmas.List.{length-append, map-append}
use Rattle.std.proofs.lemmas.List.FromFn.{get_or-map-range_with_len, length-map-range_with_len}
use Rattle.std.proofs.lemmas.Option.{slice_get-get_or}
use Rattle.tap_name.specs.Prefix.{lcp}
use Rattle.tap_name.specs.declared.slot.Slot.{Slot}
use Rattle.tap_name.proofs.Prefixes.{lcp-is}
use Rattle.tap_link.specs.Entry.{LinkEntry}
use Rattle.tap_table.specs.declared.slot_range.SlotRange.{SlotRange}
use Rattle.tap_table.specs.declared.tie.Tie.{Tie}
use Rattle.tap_table.specs.ByName.{range_by_name, slots_in, targets_of}
use Rattle.tap_table.specs.Table.{IsTable, SlotLinks, TableValue, links_at, place_of, slot_number}
use Rattle.tap_table.specs.Ties.{off_ties}
use Rattle.tap_table.proofs.Flat.{All-flat_map}
use Rattle.tap_table.proofs.Found.{slot_is_own}
use Rattle.tap_table.proofs.Slots.{number_back}
use Rattle.tap_table.proofs.OneAdded.{added}
use Rattle.tap_table.proofs.Stepping.{from_digit, in_range, in_range-first, in_ranges, in_ranges-first, slot_of_range}

-- the links of the slots of a range, and those of the ranges from one on
abbrev pub links_in : TableValue → SlotRange → SlotLinks
links_in t range = in_range (links_at t) range

abbrev pub links_from : TableValue → ℕ → SlotLinks
links_from t i = in_ranges (links_at t) t.settings t.owner i

-- the owner shares as many digits with the targets of a slot as its level says
abbrev pub AtLevel : TableValue → ℕ → SlotLinks → Type 0
AtLevel t level links = All (λ e. lcp t.owner e.target ≡ level) links

module _ (t : TableValue) (valid : IsTable t) where
  pub slot_at_level : (slot : Slot) → slot.digit < t.settings.base → AtLevel t slot.level (links_at t slot)
  slot_at_level slot below k d within =
      let e = get_or (links_at t slot) k d in
      let number = slot_number t.settings.base slot in
      let got = slice_get-get_or (links_at t slot) k d within in
      let place : place_of t.owner e.target ≡ slot =
      sym (slot_is_own t valid number e k got) ∙ number_back t.settings.base slot below in
      lcp-is t.owner e.target ∙ ap (λ (s : Slot). s.level) place

  pub range_at_level : (range : SlotRange) → range.to ≤ t.settings.base → AtLevel t range.level (links_in t range)
  range_at_level range end =
      let slot = slot_of_range range in
      All-flat_map (links_at t) (λ e. lcp t.owner e.target ≡ range.level) (slots_in range) (λ k d within.
      let len = length-map-range_with_len slot range.from (range.to - range.from) in
      let is : get_or (slots_in range) k d ≡ slot (range.from + k) =
      get_or-map-range_with_len slot range.from (range.to - range.from) k (range.from + k) d (omega (arith, within, len)) refl in
      rw is (slot_at_level (slot (range.from + k)) (omega (arith, within, len, end))))

-- the words for some nodes and then for others
pub off_ties-append : (last : ℕ) (names others : List (List ℕ))
    → off_ties last (names ++ others) ≡ off_ties last names ++ off_ties (last + length names) others
off_ties-append last [] others = let same : last ≡ last + 0 = omega arith in ap (λ n. off_ties n others) same
off_ties-append last (name ∷ names) others =
    let same : last + 1 + length names ≡ last + length (name ∷ names) = omega arith in
    let word : Tie = record { to = name; version = last + 1; on = false } in
    ap (λ l. word ∷ l) (off_ties-append (last + 1) names others ∙ ap (λ n. off_ties (last + 1) names ++ off_ties n others) same)

-- the targets of a table by name, from one slot of a range on and from one range on
module _ (t : TableValue) where
  pub targets_in_slots : (range : SlotRange) (digit : ℕ) → digit < range.to
      → targets_of (links_in t (from_digit range digit))
      ≡ targets_of (links_at t (slot_of_range range digit)) ++ targets_of (links_in t (from_digit range (digit + 1)))
  targets_in_slots range digit inside =
      let here = links_at t (slot_of_range range digit) in
      ap targets_of (in_range-first (links_at t) range digit inside)
      ∙ map-append (λ (e : LinkEntry (List ℕ)). e.target) here (links_in t (from_digit range (digit + 1)))

  pub targets_in_ranges : (i : ℕ) → i < 2 * t.settings.digits
      → targets_of (links_from t i)
      ≡ targets_of (links_in t (range_by_name t.settings t.owner i)) ++ targets_of (links_from t (i + 1))
  targets_in_ranges i inside =
      let here = links_in t (range_by_name t.settings t.owner i) in
      ap targets_of (in_ranges-first (links_at t) t.settings t.owner i inside)
      ∙ map-append (λ (e : LinkEntry (List ℕ)). e.target) here (links_from t (i + 1))

-- of the nodes that are left some get their words, with the next numbers, and then the rest
module _ (last : ℕ) (front rest left : List (List ℕ)) (parts : left ≡ front ++ rest) where
  pub words_left : (done all : List Tie) → done ++ off_ties last left ≡ all
      → (done ++ off_ties last front) ++ off_ties (last + length front) rest ≡ all
  words_left done all was =
      added done (off_ties last front) (off_ties (last + length front) rest) (off_ties last left) all
      (ap (off_ties last) parts ∙ off_ties-append last front rest) was

  pub numbers_left : (all : ℕ) → last + length left ≡ all → last + length front + length rest ≡ all
  numbers_left all was = let len = ap length parts ∙ length-append front rest in omega (arith, len, was)
