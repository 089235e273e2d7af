-- searching and striking in ascending slots
use Rattle.std.proofs.Common.{◌≡◌, ℕ, zero, suc, ◌<◌, ◌≤◌, true, false, List, [], ◌∷◌, length, get_or, slice_get, remove, Some, IsNone, Result, Ok, Err, Contains, refl, sym, ap, subst, inl, inr, arith}
use Rattle.std.specs.Ordering.{ordering_index}
use Rattle.std.specs.declared.cmp.Ordering.TheVariants.{Equal}
use Rattle.std.specs.List.Sorted.{IsBinarySearchResult, IsNonDecreasingBy}
use Rattle.std.specs.Result.{result_ok}
use Rattle.std.proofs.lemmas.Bool.{cases_lt, cases_Bool}
use Rattle.std.proofs.lemmas.Option.{get_or_from_slice_get, slice_get_past}
use Rattle.std.proofs.lemmas.Bool.Decides.{nat_tests}
use Rattle.tap_name.specs.declared.slot.Slot.{Slot}
use Rattle.tap_name.proofs.Slots.{same_slot}
use Rattle.tap_name.specs.Slot.{Precedes, slot_cmp}
use Rattle.tap_watch.specs.Watch.{SlotsAscend, is_other, without}

-- what compares with a slot rises along ascending slots
rising : (a b x : Slot) → Precedes a b → ordering_index (slot_cmp a x) ≤ ordering_index (slot_cmp b x)
rising a b x h = grind (arith, nat_tests, h.level, h.digit)

rises : (xs : List Slot) (x : Slot) → SlotsAscend xs → IsNonDecreasingBy (λ y. ordering_index (slot_cmp y x)) xs
rises xs x ascending i j d le lt =
    elim (cases_lt i j) [
      | inl below ↦ rising (get_or xs i d) (get_or xs j d) x (ascending i j d below lt)
      | inr at ↦ let same : i ≡ j = omega arith in rw same (omega arith)
    ]

same_cmp : (x : Slot) → slot_cmp x x ≡ Equal
same_cmp x = grind (arith, nat_tests)

-- a search that finds no place finds none that there is
pub absent : (xs : List Slot) (x : Slot) (r : Result ℕ ℕ) → SlotsAscend xs → IsBinarySearchResult (λ y. slot_cmp y x) xs r
    → IsNone (result_ok r) → Contains xs x → ⊥
absent xs x (Ok i) ascending found none here = absurd cc
absent xs x (Err i) ascending found none (k, lt, e) =
    let parted = found (rises xs x ascending) in
    let same = same_cmp x in
    elim (cases_lt k i) [
      | inl below ↦ let less = rw e at (parted.0 k x (omega arith) below) in cc
      | inr above ↦ let greater = rw e at (parted.1 k x above lt) in cc
    ]

other_is : (s x : Slot) → Precedes s x → is_other x s ≡ true
other_is s x h = grind (arith, nat_tests, h.level, h.digit)

other_is_after : (s x : Slot) → Precedes x s → is_other x s ≡ true
other_is_after s x h = grind (arith, nat_tests, h.level, h.digit)

pub itself : (x : Slot) → is_other x x ≡ false
itself x = grind (arith, nat_tests)

pub tests_agree : (s x : Slot) → is_other x s ≡ false → (s.level ≡ x.level) × (s.digit ≡ x.digit)
tests_agree s x h = (grind (arith, nat_tests), grind (arith, nat_tests))

-- nothing goes where the slot isn't there
pub without_absent : (xs : List Slot) (x : Slot) → (Contains xs x → ⊥) → without x xs ≡ xs
without_absent [] x none = refl
without_absent (s ∷ xs) x none =
    let rest = without_absent xs x (λ (k, lt, e). none (suc k, omega arith, e)) in
    elim (cases_Bool (is_other x s)) [
      | inl other ↦ rw other (ap (λ (ys : List Slot). s ∷ ys) rest)
      | inr same ↦ let parts = tests_agree s x same in absurd (none (0, omega arith, same_slot s x parts.0 parts.1))
    ]

tail_ascends : (s : Slot) (xs : List Slot) → SlotsAscend (s ∷ xs) → SlotsAscend xs
tail_ascends s xs h i j d lt within = h (suc i) (suc j) d (omega arith) (omega arith)

later_stay : (x : Slot) (xs : List Slot) → ((k : ℕ) (d : Slot) → k < length xs → Precedes x (get_or xs k d)) → without x xs ≡ xs
later_stay x [] h = refl
later_stay x (s ∷ xs) h =
    let other = other_is_after s x (h 0 s (omega arith)) in
    rw other (ap (λ (ys : List Slot). s ∷ ys) (later_stay x xs (λ k d lt. h (suc k) d (omega arith))))

-- what stands at a place is all that goes
pub without_at : (xs : List Slot) (x : Slot) (i : ℕ) → SlotsAscend xs → slice_get xs i ≡ Some x → without x xs ≡ remove xs i
without_at [] x i ascending here = absurd cc
without_at (s ∷ xs) x zero ascending here =
    let same : s ≡ x = cc in
    let e = itself x in
    subst (λ (y : Slot). without x (y ∷ xs) ≡ xs) (sym same)
    (rw e (later_stay x xs (λ k d lt. subst (λ (y : Slot). Precedes y (get_or xs k d)) same
    (ascending 0 (suc k) d (omega arith) (omega arith)))))
without_at (s ∷ xs) x (suc i) ascending here =
    elim (cases_lt i (length xs)) [
      | inl within ↦
          let there : get_or xs i x ≡ x = get_or_from_slice_get xs i x x here in
          let other = other_is s x (subst (λ (y : Slot). Precedes s y) there (ascending 0 (suc i) x (omega arith) (omega arith))) in
          rw other (ap (λ (ys : List Slot). s ∷ ys) (without_at xs x i (tail_ascends s xs ascending) here))
      | inr past ↦ let nothing = slice_get_past xs i past in absurd cc
    ]

-- what an index gives is there
pub is_there : (xs : List Slot) (x : Slot) (i : ℕ) → slice_get xs i ≡ Some x → Contains xs x
is_there xs x i here =
    elim (cases_lt i (length xs)) [
      | inl within ↦ (i, within, get_or_from_slice_get xs i x x here)
      | inr past ↦ let nothing = slice_get_past xs i past in absurd cc
    ]

-- and within the list
pub is_within : (xs : List Slot) (x : Slot) (i : ℕ) → slice_get xs i ≡ Some x → i < length xs
is_within xs x i here =
    elim (cases_lt i (length xs)) [
      | inl within ↦ within
      | inr past ↦ let nothing = slice_get_past xs i past in absurd cc
    ]
