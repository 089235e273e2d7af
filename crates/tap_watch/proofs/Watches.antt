-- Which slots a watch has, and that it keeps its form: when it is full, after a strike, and with one slot more.
-- Cited above: Contains-filter, Contains-full, IsWatch-filter, IsWatch-full, length-full
use Rattle.std.proofs.Common.{◌≡◌, ◌≢◌, ◌↔◌, ◌⊎◌, ℕ, zero, suc, ◌+◌, ◌*◌, ◌-◌, ◌<◌, true, false, Bool, List, [], ◌∷◌, length, filter, Contains, Some, refl, sym, ap, ◌∙◌, inl, inr, arith}
use Rattle.std.specs.List.{All}
use Rattle.std.proofs.lemmas.Bool.{cases_Bool}
use Rattle.std.proofs.lemmas.List.Edits.{length-remove}
use Rattle.std.proofs.lemmas.List.Elements.{All-contains_itself, All-filter, All-push, Contains-append_cases, Contains-append_left, Contains-append_right}
use Rattle.std.proofs.lemmas.List.Kept.{AllPairs-filter}
use Rattle.std.proofs.lemmas.List.Quantifiers.{all_pairs_push}
use Rattle.std.proofs.lemmas.Option.{slice_get-get_or}
use Rattle.tap_name.specs.Name.{IsName}
use Rattle.tap_name.specs.Settings.{SettingsValue}
use Rattle.tap_name.specs.Slot.{Precedes}
use Rattle.tap_name.specs.declared.slot.Slot.{Slot}
use Rattle.tap_name.proofs.Slots.{same_slot}
use Rattle.tap_watch.specs.Level.{full_slots}
use Rattle.tap_watch.specs.Watch.{SlotsAscend, IsWatch, IsWatched, is_other, with_last, without}
use Rattle.tap_watch.proofs.Levels.{from_levels, levels_ascend, levels_len, single, single_is, to_levels}
use Rattle.tap_watch.proofs.Order.{itself, tests_agree, without_absent, without_at}

-- an element of a list is its first one or one of the others
Contains-first : {X : Type 0} (a : X) (rest : List X) (x : X) → Contains (a ∷ rest) x → (a ≡ x) ⊎ Contains rest x
Contains-first a rest x (zero, lt, e) = inl e
Contains-first a rest x (suc k, lt, e) = inr (k, omega arith, e)

Contains-later : {X : Type 0} (a : X) (rest : List X) (x : X) → Contains rest x → Contains (a ∷ rest) x
Contains-later a rest x (k, lt, e) = (suc k, omega arith, e)

-- a filter has the elements that pass
Contains-filter_from : {X : Type 0} (test : X → Bool) (xs : List X) (x : X) → Contains (filter test xs) x
    → Contains xs x × (test x ≡ true)
Contains-filter_from test [] x (k, lt, e) = absurd (omega arith)
Contains-filter_from test (a ∷ rest) x here = step (test a) refl (Contains-filter_from test rest x)
  where
    step : (b : Bool) → test a ≡ b → (Contains (filter test rest) x → Contains rest x × (test x ≡ true))
        → Contains (a ∷ rest) x × (test x ≡ true)
    step true pass later = elim (Contains-first a (filter test rest) x (rw pass at here)) [
      | inl e ↦ ((0, omega arith, e), rw (← e) pass)
      | inr there ↦ let is = later there in (Contains-later a rest x is.0, is.1)
    ]
    step false fail later = let is = later (rw fail at here) in (Contains-later a rest x is.0, is.1)

Contains-filter_to : {X : Type 0} (test : X → Bool) (xs : List X) (x : X) → Contains xs x → test x ≡ true → Contains (filter test xs) x
Contains-filter_to test [] x (k, lt, e) pass = absurd (omega arith)
Contains-filter_to test (a ∷ rest) x here pass = step (test a) refl (λ there. Contains-filter_to test rest x there pass)
  where
    step : (b : Bool) → test a ≡ b → (Contains rest x → Contains (filter test rest) x) → Contains (filter test (a ∷ rest)) x
    step true is later = elim (Contains-first a rest x here) [
      | inl e ↦ rw is (0, omega arith, e)
      | inr there ↦ rw is (Contains-later a (filter test rest) x (later there))
    ]
    step false is later = elim (Contains-first a rest x here) [
      | inl e ↦ let wrong : true ≡ false = sym pass ∙ ap test (sym e) ∙ is in absurd cc
      | inr there ↦ rw is (later there)
    ]

-- what a test leaves of a list has a slot exactly if the list had it and it passes
pub Contains-filter : (test : Slot → Bool) (slots : List Slot) (s : Slot)
    → Contains (filter test slots) s ↔ (Contains slots s × (test s ≡ true))
Contains-filter test slots s = (Contains-filter_from test slots s, λ (here, pass). Contains-filter_to test slots s here pass)

-- after a strike a slot is there exactly if it was and is another one than the one struck
pub Contains-without : (slots : List Slot) (struck s : Slot) → Contains (without struck slots) s ↔ (Contains slots s × (s ≢ struck))
Contains-without slots struck s = (
  λ here.
      let is = Contains-filter_from (is_other struck) slots s here in
      (is.0, λ same. let wrong : false ≡ true = sym (itself struck) ∙ ap (is_other struck) (sym same) ∙ is.1 in cc),
  λ (here, apart). elim (cases_Bool (is_other struck s)) [
    | inl other ↦ Contains-filter_to (is_other struck) slots s here other
    | inr same ↦ let parts = tests_agree s struck same in absurd (apart (same_slot s struck parts.0 parts.1))
  ],
)

-- with one slot more a slot is there exactly if it was or is that one
pub Contains-with_last : (slots : List Slot) (last s : Slot) → Contains (with_last slots last) s ↔ (Contains slots s ⊎ (last ≡ s))
Contains-with_last slots last s = (
  λ here. elim (Contains-append_cases slots (last ∷ []) s here) [
    | inl before ↦ inl before
    | inr end ↦ inr (single_is last s end)
  ],
  λ either. elim either [
    | inl before ↦ Contains-append_left slots (last ∷ []) s before
    | inr end ↦ Contains-append_right slots (last ∷ []) s (single last s end)
  ],
)

-- a strike of a slot that is there leaves one less
pub length-without : (slots : List Slot) (struck : Slot) → SlotsAscend slots → Contains slots struck
    → length (without struck slots) + 1 ≡ length slots
length-without slots struck ascending (i, within, e) =
    let here = slice_get-get_or slots i struck within ∙ ap Some e in
    rw (without_at slots struck i ascending here) (length-remove slots i within)

-- a second strike of a slot changes nothing
pub without-twice : (slots : List Slot) (struck : Slot) → without struck (without struck slots) ≡ without struck slots
without-twice slots struck =
    without_absent (without struck slots) struck (λ here. ((Contains-without slots struck struck).0 here).1 refl)

pub SlotsAscend-with_last : (slots : List Slot) (last : Slot) → SlotsAscend slots → All (λ s. Precedes s last) slots
    → SlotsAscend (with_last slots last)
SlotsAscend-with_last slots last ascending before = all_pairs_push Precedes slots last ascending before

module _ (p : SettingsValue) (joiner : List ℕ) (prefix : ℕ) where
  -- the full watch has exactly the slots that are watched
  pub Contains-full : (s : Slot) → Contains (full_slots p joiner prefix) s ↔ IsWatched p joiner prefix s
  Contains-full s = (
    λ here.
        let is = from_levels p.base joiner (prefix + 1) s here in
        record { level = omega (arith, is.level); digit = is.digit; other = is.other },
    λ is. to_levels p.base joiner (prefix + 1) s (record { level = omega (arith, is.level); digit = is.digit; other = is.other }),
  )

  -- on each level it has all digits but one
  pub length-full : IsName p joiner → prefix < p.digits → length (full_slots p joiner prefix) ≡ (prefix + 1) * (p.base - 1)
  length-full name within =
      levels_len p.base joiner (prefix + 1) (λ level lt. name.below level 0 (omega (arith, name.len, within)))

  -- the full watch is a watch
  pub IsWatch-full : IsWatch p joiner prefix (full_slots p joiner prefix)
  IsWatch-full = record {
    ascending = levels_ascend p.base joiner (prefix + 1);
    watched = λ k d h. (Contains-full _).0 (All-contains_itself (full_slots p joiner prefix) k d h);
  }

  -- so is one with no slot, and what a test leaves of one, as a strike
  pub IsWatch-none : IsWatch p joiner prefix []
  IsWatch-none = record { ascending = λ i j d lt within. absurd (omega arith); watched = λ k d h. absurd (omega arith) }

  pub IsWatch-filter : (test : Slot → Bool) (slots : List Slot) → IsWatch p joiner prefix slots
      → IsWatch p joiner prefix (filter test slots)
  IsWatch-filter test slots is = record {
    ascending = AllPairs-filter Precedes test slots is.ascending;
    watched = All-filter test (IsWatched p joiner prefix) slots is.watched;
  }

  pub IsWatch-without : (struck : Slot) (slots : List Slot) → IsWatch p joiner prefix slots
      → IsWatch p joiner prefix (without struck slots)
  IsWatch-without struck slots is = IsWatch-filter (is_other struck) slots is

  -- and one with a watched slot more after all others
  pub IsWatch-with_last : (slots : List Slot) (last : Slot) → IsWatch p joiner prefix slots → All (λ s. Precedes s last) slots
      → IsWatched p joiner prefix last → IsWatch p joiner prefix (with_last slots last)
  IsWatch-with_last slots last is before watched = record {
    ascending = SlotsAscend-with_last slots last is.ascending before;
    watched = All-push (IsWatched p joiner prefix) slots last is.watched watched;
  }
