-- The place of a key's entry in an ascending list: from what a search by halves answers, and that what stands at a place
-- is what its key finds, both ways.
-- Cited above: entry_at-found, found-entry_at
use Rattle.std.proofs.Common.{◌≡◌, ℕ, zero, suc, ◌+◌, ◌<◌, ◌≤◌, true, List, [], ◌∷◌, length, slice_get, Some, refl, Result, Ok, Err, IfOk, IfErr, ◌⊎◌, sym, ap, ◌∙◌, inl, inr, arith}
use Rattle.std.specs.List.{All, AllWithin, HoldsAt, slice_index_or}
use Rattle.std.specs.List.Sorted.{IsBinarySearchResult, IsNonDecreasingBy, IsSearchInRange}
use Rattle.std.specs.Cmp.{IsTotalOrder}
use Rattle.std.specs.Fn.{Called, ComputesKey}
use denote.Param.Members.{Mut}
use denote.Ref.{Bor}
use Rattle.std.proofs.lemmas.Fn.{always_returns_same}
use Rattle.std.specs.Ordering.{is_lt, is_eq, is_gt, ordering_index, ordering_reverse}
use Rattle.std.specs.declared.cmp.Ordering.{Ordering}
use Rattle.std.specs.declared.cmp.Ordering.TheVariants.{Less, Equal, Greater}
use Rattle.std.proofs.lemmas.Bool.{cases_order}
use Rattle.std.proofs.lemmas.Option.{get_or_from_slice_get, slice_get_within}
use Rattle.std.proofs.lemmas.Cmp.{alike_right}
use Rattle.std.proofs.lemmas.List.Sorted.{searchable_from_sorted}
use Rattle.tap_register.specs.declared.registers.Entry.{Entry}
use Rattle.tap_register.specs.Registers.{IsAscending, IsAt, IsGap, entry_of}
use Rattle.tap_register.proofs.Orderings.{is_equal}
use Rattle.tap_register.proofs.Lists.{AllWithin-first, AllWithin-later, filter_first, filter_last, find_first, find_nothing, find_passes, find_All}

-- how many entries stand before a key: those are below it, and the next one is the key's or those from there on are above it
record IsParted {K V : Type 0} (cmp : K → K → Ordering) (entries : List (Entry K V)) (key : K) (at : ℕ) : Type 0 where
  within : at ≤ length entries
  before : AllWithin (λ e. cmp e.key key ≡ Less) entries 0 at
  after : AllWithin (λ e. cmp e.key key ≡ Greater) entries at (length entries)
      ⊎ ((at < length entries) × HoldsAt (λ e. cmp e.key key ≡ Equal) entries at)

-- each key has such a number
parted : {K V : Type 0} (cmp : K → K → Ordering) (total : IsTotalOrder cmp) (entries : List (Entry K V)) (key : K)
    → IsAscending cmp entries → (at : ℕ) × IsParted cmp entries key at
parted cmp total [] key ascending = (
  0,
  record {
    within = omega arith;
    before = λ k d low high. absurd (omega arith);
    after = inl (λ k d low high. absurd (omega arith));
  },
)
parted cmp total (e ∷ es) key ascending =
    step (cmp e.key key) refl (parted cmp total es key (λ i j d lt within. ascending (suc i) (suc j) d (omega arith) (omega arith)))
  where
    step : (r : Ordering) → cmp e.key key ≡ r → (at : ℕ) × IsParted cmp es key at → (at : ℕ) × IsParted cmp (e ∷ es) key at
    step Less is (at, rest) = (
      suc at,
      record {
        within = omega (arith, rest.within);
        before = AllWithin-first (λ e. cmp e.key key ≡ Less) e es at is rest.before;
        after = elim rest.after [
          | inl above ↦ inl (AllWithin-later (λ e. cmp e.key key ≡ Greater) e es at above)
          | inr (within, here) ↦ inr (omega arith, here)
        ];
      },
    )
    step Equal is rest = (
      0,
      record {
        within = omega arith;
        before = λ k d low high. absurd (omega arith);
        after = inr (omega arith, λ d. is);
      },
    )
    step Greater is rest = (
      0,
      record {
        within = omega arith;
        before = λ k d low high. absurd (omega arith);
        after = inl (all_above is);
      },
    )
      where
        all_above : cmp e.key key ≡ Greater → AllWithin (λ e. cmp e.key key ≡ Greater) (e ∷ es) 0 (length (e ∷ es))
        all_above is zero d low high = is
        all_above is (suc k) d low high =
            let there = slice_index_or es k d in
            let first : cmp key e.key ≡ Less = total.antisymm key e.key ∙ ap ordering_reverse is in
            let under = total.trans key e.key there.key first (ascending 0 (suc k) d (omega arith) (omega arith)) in
            total.antisymm there.key key ∙ ap ordering_reverse under

module _ {K V : Type 0} (cmp : K → K → Ordering) (total : IsTotalOrder cmp) (entries : List (Entry K V)) (key : K) where
  -- what stands before and after the entry of the key
  below_before : (at : ℕ) → IsAscending cmp entries → at < length entries → HoldsAt (λ e. cmp e.key key ≡ Equal) entries at
      → AllWithin (λ e. cmp e.key key ≡ Less) entries 0 at
  below_before at ascending within same k d low high =
      let here = slice_index_or entries at d in
      let there = slice_index_or entries k d in
      sym (alike_right total here.key key there.key (same d)) ∙ ascending k at d high within

  above_after : (at : ℕ) → IsAscending cmp entries → at < length entries → HoldsAt (λ e. cmp e.key key ≡ Equal) entries at
      → AllWithin (λ e. cmp e.key key ≡ Greater) entries (at + 1) (length entries)
  above_after at ascending within same k d low high =
      let here = slice_index_or entries at d in
      let there = slice_index_or entries k d in
      let under : cmp key there.key ≡ Less = sym (total.congr here.key key there.key (same d)) ∙ ascending at k d (omega arith) high in
      total.antisymm there.key key ∙ ap ordering_reverse under

  place : (at : ℕ) → IsAscending cmp entries → at < length entries → HoldsAt (λ e. cmp e.key key ≡ Equal) entries at
      → IsAt cmp entries key at
  place at ascending within same =
      let before = below_before at ascending within same in
      let after = above_after at ascending within same in
      record {
        within = within;
        found = find_first (λ e. is_eq (cmp e.key key)) entries at within (λ k d low high. ap is_eq (before k d low high))
            (λ d. ap is_eq (same d));
        before = filter_first (λ e. is_lt (cmp e.key key)) entries at (omega arith) (λ k d low high. ap is_lt (before k d low high))
            (λ k d low high. elim (cases_order k at) [
              | inl e ↦ rw e (ap is_lt (same d))
              | inr (inl lt) ↦ absurd (omega arith)
              | inr (inr gt) ↦ ap is_lt (after k d (omega arith) high)
            ]);
        after = filter_last (λ e. is_gt (cmp e.key key)) entries (at + 1)
            (λ k d low high. elim (cases_order k at) [
              | inl e ↦ rw e (ap is_gt (same d))
              | inr (inl lt) ↦ ap is_gt (before k d low lt)
              | inr (inr gt) ↦ absurd (omega arith)
            ])
            (λ k d low high. ap is_gt (after k d low high));
      }

  gap : (at : ℕ) → at ≤ length entries → AllWithin (λ e. cmp e.key key ≡ Less) entries 0 at
      → AllWithin (λ e. cmp e.key key ≡ Greater) entries at (length entries) → IsGap cmp entries key at
  gap at within before after = record {
    within = within;
    absent = find_nothing (λ e. is_eq (cmp e.key key)) entries (λ k d low high. elim (cases_order k at) [
      | inl e ↦ ap is_eq (after k d (omega arith) high)
      | inr (inl lt) ↦ ap is_eq (before k d low lt)
      | inr (inr gt) ↦ ap is_eq (after k d (omega arith) high)
    ]);
    before = filter_first (λ e. is_lt (cmp e.key key)) entries at within (λ k d low high. ap is_lt (before k d low high))
        (λ k d low high. ap is_lt (after k d low high));
    after = filter_last (λ e. is_gt (cmp e.key key)) entries at (λ k d low high. ap is_gt (before k d low high))
        (λ k d low high. ap is_gt (after k d low high));
  }

  -- the comparisons with the key rise along the list
  rising : IsAscending cmp entries → IsNonDecreasingBy (λ e. ordering_index (cmp e.key key)) entries
  rising ascending = searchable_from_sorted total (λ e. e.key) entries key
      (λ k d low high.
      let here = slice_index_or entries k d in
      let there = slice_index_or entries (k + 1) d in
      ap is_lt (total.antisymm there.key here.key ∙ ap ordering_reverse (ascending k (k + 1) d (omega arith) high)))

  -- what a search by halves answers whose closure compares each element's key with the key
  pub search_by_key : {F : Type 0} {g : Mut F (Bor (Entry K V) × Unit {0}) Ordering} {f : F} (answer : Result ℕ ℕ)
      → ((ord : Entry K V → Ordering) → ComputesKey g ord f → IsBinarySearchResult ord entries answer)
      → ((a : Bor (Entry K V) × Unit {0}) (r : Ordering) (f' : F) → Called g f a r f' → (r ≡ cmp a.0.now.key key) × (f' ≡ f))
      → IsBinarySearchResult (λ e. cmp e.key key) entries answer
  search_by_key {g = g} {f = f} answer clause compares =
      clause (λ e. cmp e.key key) (always_returns_same g (λ a r. r ≡ cmp a.0.now.key key) f compares)

  -- that is the place, or the gap
  pub place_of_search : (answer : Result ℕ ℕ) → IsAscending cmp entries → IsSearchInRange answer (length entries)
      → IsBinarySearchResult (λ e. cmp e.key key) entries answer → IfOk answer (λ at. IsAt cmp entries key at)
  place_of_search (Ok at) ascending within same = place at ascending within same
  place_of_search (Err at) ascending within split = tt

  pub gap_of_search : (answer : Result ℕ ℕ) → IsAscending cmp entries → IsSearchInRange answer (length entries)
      → IsBinarySearchResult (λ e. cmp e.key key) entries answer → IfErr answer (λ at. IsGap cmp entries key at)
  gap_of_search (Ok at) ascending within same = tt
  gap_of_search (Err at) ascending within split =
      let parts = split (rising ascending) in
      gap at within parts.0 parts.1

  -- a key has an entry at a place, or there is a place where it would stand
  pub located : IsAscending cmp entries → ((at : ℕ) × IsAt cmp entries key at) ⊎ ((at : ℕ) × IsGap cmp entries key at)
  located ascending = by_part (parted cmp total entries key ascending)
    where
      by_part : (at : ℕ) × IsParted cmp entries key at → ((at : ℕ) × IsAt cmp entries key at) ⊎ ((at : ℕ) × IsGap cmp entries key at)
      by_part (at, part) = elim part.after [
        | inl above ↦ inr (at, gap at part.within part.before above)
        | inr (within, same) ↦ inl (at, place at ascending within same)
      ]

  -- the entry at a place is what its key finds
  pub entry_at-found : (at : ℕ) (e : Entry K V) → IsAscending cmp entries → slice_get entries at ≡ Some e → is_eq (cmp e.key key) ≡ true
      → entry_of cmp entries key ≡ Some e
  entry_at-found at e ascending here same =
      let within : at < length entries = slice_get_within entries at e here in
      (place at ascending within (λ d. rw (get_or_from_slice_get entries at e d here) (is_equal _ same))).found ∙ here

  -- and what a key finds stands at a place
  pub found-entry_at : (e : Entry K V) → IsAscending cmp entries → entry_of cmp entries key ≡ Some e
      → (at : ℕ) × (slice_get entries at ≡ Some e) × (is_eq (cmp e.key key) ≡ true)
  found-entry_at e ascending found = elim (located ascending) [
    | inl (at, there) ↦ (at, sym there.found ∙ found, find_passes (λ e. is_eq (cmp e.key key)) entries e found)
    | inr (at, gap) ↦ let nothing = gap.absent in absurd cc
  ]

  -- what holds of each entry holds of the one that a key finds
  pub All-found : (P : Entry K V → Type 0) (e : Entry K V) → All P entries → entry_of cmp entries key ≡ Some e → P e
  All-found P e all found = find_All (λ e. is_eq (cmp e.key key)) P entries e all found
