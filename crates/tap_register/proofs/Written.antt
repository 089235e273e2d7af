-- What stays and what changes where an entry is written.
use Rattle.std.proofs.Common.{◌≡◌, ℕ, true, Bool, List, ◌∷◌, Some, refl, sym, ap, ◌∙◌, find, set, insert, if◌then◌else◌}
use Rattle.std.specs.List.{All, slice_index_or}
use Rattle.std.specs.Option.{option_or}
use Rattle.std.specs.Cmp.{IsTotalOrder}
use Rattle.std.specs.Ordering.{is_lt, is_eq, is_gt, ordering_reverse}
use Rattle.std.specs.declared.cmp.Ordering.{Ordering}
use Rattle.std.specs.declared.cmp.Ordering.TheVariants.{Less, Equal, Greater}
use Rattle.std.proofs.lemmas.List.{take-append-drop, take-set, drop-set}
use Rattle.std.proofs.lemmas.List.Elements.{All-cons, filter_passes}
use Rattle.std.proofs.lemmas.List.Folds.{find-append}
use Rattle.std.proofs.lemmas.List.Kept.{AllPairs-cons, AllPairs-filter}
use Rattle.tap_register.specs.declared.registers.Entry.{Entry}
use Rattle.tap_register.specs.Registers.{IsAscending, IsAt, IsGap, entry_of, below, above, written}
use Rattle.tap_register.proofs.Orderings.{is_less, is_equal, is_greater}
use Rattle.tap_register.proofs.Lists.{AllPairs-append, find-filter_all, find-filter_none, option_or-none}

-- an entry in the place of the one that stood there, and in a gap
pub set-written : {K V : Type 0} (cmp : K → K → Ordering) (entries : List (Entry K V)) (entry : Entry K V) (at : ℕ)
    → IsAt cmp entries entry.key at
    → set entries at entry ≡ written cmp entries entry
set-written cmp entries entry at place =
    sym (take-append-drop at (set entries at entry)) ∙ rw
    (take-set entries at entry, drop-set entries at entry place.within, place.before, place.after) refl

pub insert-written : {K V : Type 0} (cmp : K → K → Ordering) (entries : List (Entry K V)) (entry : Entry K V) (at : ℕ)
    → IsGap cmp entries entry.key at
    → insert entries at entry ≡ written cmp entries entry
insert-written cmp entries entry at gap = rw (gap.before, gap.after) refl

module _ {K V : Type 0} (cmp : K → K → Ordering) (total : IsTotalOrder cmp) (entries : List (Entry K V)) (entry : Entry K V) where
  pub IsAscending-written : IsAscending cmp entries → IsAscending cmp (written cmp entries entry)
  IsAscending-written ascending =
      let before = below cmp entries entry.key in
      let after = above cmp entries entry.key in
      let lower : All (λ e. cmp e.key entry.key ≡ Less) before =
      λ k d h. is_less _ (filter_passes (λ e. is_lt (cmp e.key entry.key)) entries k d h) in
      let upper : All (λ e. cmp entry.key e.key ≡ Less) after = λ k d h.
      total.antisymm entry.key (slice_index_or after k d).key
      ∙ ap ordering_reverse (is_greater _ (filter_passes (λ e. is_gt (cmp e.key entry.key)) entries k d h)) in
      let R : Entry K V → Entry K V → Type 0 = λ a b. cmp a.key b.key ≡ Less in
      let across : All (λ e. All (R e) (entry ∷ after)) before = λ k d h.
      let e = slice_index_or before k d in
      All-cons (R e) entry after (lower k d h) (λ j f l. total.trans e.key entry.key (slice_index_or after j f).key (lower k d h)
      (upper j f l)) in
      AllPairs-append R before (entry ∷ after)
      (AllPairs-filter R (λ e. is_lt (cmp e.key entry.key)) entries ascending)
      (AllPairs-cons R entry after upper (AllPairs-filter R (λ e. is_gt (cmp e.key entry.key)) entries ascending))
      across

  abbrev has_key : K → Entry K V → Bool
  has_key key e = is_eq (cmp e.key key)

  -- the look-up law: the entry is found at its own key, and at another key what was found before
  pub entry_of-written : (key : K) → entry_of cmp (written cmp entries entry) key
      ≡ (if is_eq (cmp entry.key key) then Some entry else entry_of cmp entries key)
  entry_of-written key = searched ∙ by_order (cmp entry.key key) refl
    where
      searched : find (has_key key) (written cmp entries entry)
          ≡ option_or (find (has_key key) (below cmp entries entry.key)) (find (has_key key) (entry ∷ above cmp entries entry.key))
      searched = find-append (has_key key) (below cmp entries entry.key) (entry ∷ above cmp entries entry.key)

      -- an entry with this key stands on the side of the written one on which the key is
      side : (r : Ordering) → cmp entry.key key ≡ r → (e : Entry K V) → is_eq (cmp e.key key) ≡ true
          → cmp e.key entry.key ≡ ordering_reverse r
      side r is e same = total.congr e.key key entry.key (is_equal _ same) ∙ total.antisymm key entry.key ∙ ap ordering_reverse is

      by_order : (r : Ordering) → cmp entry.key key ≡ r
          → option_or (find (has_key key) (below cmp entries entry.key)) (find (has_key key) (entry ∷ above cmp entries entry.key))
          ≡ (if is_eq (cmp entry.key key) then Some entry else entry_of cmp entries key)
      by_order Less is =
          rw (find-filter_none (has_key key) (λ e. is_lt (cmp e.key entry.key)) (λ e same. ap is_lt (side Less is e same)) entries, is)
          (find-filter_all (has_key key) (λ e. is_gt (cmp e.key entry.key)) (λ e same. ap is_gt (side Less is e same)) entries)
      by_order Equal is =
          rw (find-filter_none (has_key key) (λ e. is_lt (cmp e.key entry.key)) (λ e same. ap is_lt (side Equal is e same)) entries, is)
          refl
      by_order Greater is =
          rw (
            find-filter_all (has_key key) (λ e. is_lt (cmp e.key entry.key)) (λ e same. ap is_lt (side Greater is e same)) entries,
            is,
            find-filter_none (has_key key) (λ e. is_gt (cmp e.key entry.key)) (λ e same. ap is_gt (side Greater is e same)) entries,
          )
          (option_or-none _)
