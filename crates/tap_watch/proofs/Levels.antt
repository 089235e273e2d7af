-- the slots of whole levels: which they are, how many, and that they ascend
-- Cited above: levels_ascend
use Rattle.std.proofs.Common.{◌≡◌, ◌≢◌, ℕ, zero, suc, ◌+◌, ◌*◌, ◌-◌, ◌<◌, ◌≤◌, eqb, List, [], ◌∷◌, ◌++◌, length, get_or, slice_index, Contains, refl, sym, ap, subst, ◌∙◌, inl, inr, arith, length-append}
use Rattle.std.proofs.lemmas.Bool.{cases_lt, cases_Bool, eqb-true, eqb-false}
use Rattle.std.proofs.lemmas.Bool.Decides.{nat_tests}
use Rattle.std.proofs.lemmas.List.{get_or_append_left, get_or-append_right, get_or_default}
use Rattle.std.proofs.lemmas.List.Elements.{Contains-append_left, Contains-append_right, Contains-append_cases}
use Rattle.tap_name.specs.declared.slot.Slot.{Slot}
use Rattle.tap_name.specs.Slot.{Precedes}
use Rattle.tap_watch.specs.Watch.{SlotsAscend}
use Rattle.tap_name.proofs.Slots.{same_slot}
use Rattle.tap_watch.specs.Level.{level_slots, levels_slots}

-- two ascending lists, the first before the second
ascends-append : (xs ys : List Slot) → SlotsAscend xs → SlotsAscend ys → ((s t : Slot) → Contains xs s → Contains ys t → Precedes s t)
    → SlotsAscend (xs ++ ys)
ascends-append xs ys ax ay across i j d lt within =
    let n = length xs in
    let total = length-append xs ys in
    elim (cases_lt j n) [
      | inl low ↦ rw (get_or_append_left xs ys d i (omega arith), get_or_append_left xs ys d j low) (ax i j d lt low)
      | inr high ↦ elim (cases_lt i n) [
        | inl low ↦
            rw (get_or_append_left xs ys d i low, get_or-append_right xs ys n j d refl high)
            (across (get_or xs i d) (get_or ys (j - n) d) (i, low, at_default xs i d low)
            (j - n, omega arith, at_default ys (j - n) d (omega arith)))
        | inr over ↦
            rw (get_or-append_right xs ys n i d refl over, get_or-append_right xs ys n j d refl high)
            (ay (i - n) (j - n) d (omega arith) (omega arith))
      ]
    ]
  where
    at_default : (zs : List Slot) (k : ℕ) (d : Slot) → k < length zs → get_or zs k (get_or zs k d) ≡ get_or zs k d
    at_default zs k d h = get_or_default zs k (get_or zs k d) d h

-- the level's slots with digits below a bound
pub record IsIn (at_level own bound : ℕ) (s : Slot) : Type 0 where
  pub level : s.level ≡ at_level
  pub digit : s.digit < bound
  pub other : s.digit ≢ own

abbrev at : ℕ → ℕ → Slot
at level digit = record { level = level; digit = digit }

pub single_is : (x s : Slot) → Contains (x ∷ []) s → x ≡ s
single_is x s (zero, lt, e) = e
single_is x s (suc k, lt, e) = absurd (omega arith)

pub single : (x s : Slot) → x ≡ s → Contains (x ∷ []) s
single x s e = (0, omega arith, e)

pub from_level : (level own bound : ℕ) (s : Slot) → Contains (level_slots level own bound) s → IsIn level own bound s
from_level level own zero s (k, lt, e) = absurd (omega arith)
from_level level own (suc bound) s here =
    elim (cases_Bool (eqb bound own)) [
      | inl own_digit ↦
          let before = from_level level own bound s (rw own_digit at here) in
          record { level = before.level; digit = omega (arith, before.digit); other = before.other }
      | inr another ↦
          let x : Slot = record { level = level; digit = bound } in
          elim (Contains-append_cases (level_slots level own bound) (x ∷ []) s (rw another at here)) [
            | inl left ↦
                let before = from_level level own bound s left in
                record { level = before.level; digit = omega (arith, before.digit); other = before.other }
            | inr right ↦
                let is = single_is x s right in
                subst (IsIn level own (suc bound)) is (record {
                  level = refl;
                  digit = omega arith;
                  other =
                      λ e. absurd (grind (arith, nat_tests));
                })
          ]
    ]

pub to_level : (level own bound : ℕ) (s : Slot) → IsIn level own bound s → Contains (level_slots level own bound) s
to_level level own zero s h = absurd (omega (arith, h.digit))
to_level level own (suc bound) s h =
    let x : Slot = record { level = level; digit = bound } in
    elim (cases_Bool (eqb bound own)) [
      | inl own_digit ↦
          let e = eqb-true bound own own_digit in
          rw own_digit (to_level level own bound s (record { level = h.level; digit = omega (arith, h.digit, h.other); other = h.other }))
      | inr another ↦ rw another
          (elim (cases_lt s.digit bound) [
            | inl low ↦ Contains-append_left (level_slots level own bound) (x ∷ []) s
                (to_level level own bound s (record { level = h.level; digit = low; other = h.other }))
            | inr top ↦ Contains-append_right (level_slots level own bound) (x ∷ []) s
                (single x s (sym (same_slot s x h.level (omega (arith, h.digit)))))
          ])
    ]

level_len_below : (level own bound : ℕ) → bound ≤ own → length (level_slots level own bound) ≡ bound
level_len_below level own zero le = refl
level_len_below level own (suc bound) le =
    elim (cases_Bool (eqb bound own)) [
      | inl own_digit ↦ let e = eqb-true bound own own_digit in absurd (omega arith)
      | inr another ↦ rw another (omega (
        arith,
        length-append (level_slots level own bound) (at level bound ∷ []),
        level_len_below level own bound (omega arith),
      ))
    ]

level_len : (level own bound : ℕ) → own < bound → length (level_slots level own bound) + 1 ≡ bound
level_len level own zero lt = absurd (omega arith)
level_len level own (suc bound) lt =
    elim (cases_Bool (eqb bound own)) [
      | inl own_digit ↦ let e = eqb-true bound own own_digit in rw own_digit (omega (arith, level_len_below level own bound (omega arith)))
      | inr another ↦
          let e = eqb-false bound own another in
          rw another (omega (
            arith,
            length-append (level_slots level own bound) (at level bound ∷ []),
            level_len level own bound (omega arith),
          ))
    ]

one_ascends : (x : Slot) → SlotsAscend (x ∷ [])
one_ascends x i j d lt within = absurd (omega arith)

level_ascends : (level own bound : ℕ) → SlotsAscend (level_slots level own bound)
level_ascends level own zero = λ i j d lt within. absurd (omega arith)
level_ascends level own (suc bound) =
    elim (cases_Bool (eqb bound own)) [
      | inl own_digit ↦ rw own_digit (level_ascends level own bound)
      | inr another ↦ rw another (ascends-append (level_slots level own bound) (at level bound ∷ []) (level_ascends level own bound)
          (one_ascends (at level bound)) (λ s t left right.
          let is = single_is (at level bound) t right in
          let before = from_level level own bound s left in
          subst (Precedes s) is (record { level = omega (arith, before.level); digit = λ _. before.digit })))
    ]

-- a slot of the levels below a bound
pub record IsBelow (base : ℕ) (joiner : List ℕ) (levels : ℕ) (s : Slot) : Type 0 where
  pub level : s.level < levels
  pub digit : s.digit < base
  pub other : s.digit ≢ slice_index joiner s.level

pub from_levels : (base : ℕ) (joiner : List ℕ) (levels : ℕ) (s : Slot) → Contains (levels_slots base joiner levels) s
    → IsBelow base joiner levels s
from_levels base joiner zero s (k, lt, e) = absurd (omega arith)
from_levels base joiner (suc level) s here =
    let own = slice_index joiner level in
    elim (Contains-append_cases (levels_slots base joiner level) (level_slots level own base) s here) [
      | inl left ↦
          let before = from_levels base joiner level s left in
          record { level = omega (arith, before.level); digit = before.digit; other = before.other }
      | inr right ↦
          let is = from_level level own base s right in
          record { level = omega (arith, is.level); digit = is.digit; other = λ e. is.other (e ∙ ap (slice_index joiner) is.level) }
    ]

pub to_levels : (base : ℕ) (joiner : List ℕ) (levels : ℕ) (s : Slot) → IsBelow base joiner levels s
    → Contains (levels_slots base joiner levels) s
to_levels base joiner zero s h = absurd (omega (arith, h.level))
to_levels base joiner (suc level) s h =
    let own = slice_index joiner level in
    elim (cases_lt s.level level) [
      | inl low ↦ Contains-append_left (levels_slots base joiner level) (level_slots level own base) s
          (to_levels base joiner level s (record { level = low; digit = h.digit; other = h.other }))
      | inr top ↦
          let e : s.level ≡ level = omega (arith, h.level) in
          Contains-append_right (levels_slots base joiner level) (level_slots level own base) s
          (to_level level own base s (record {
            level = e;
            digit = h.digit;
            other =
                λ same. h.other (same ∙ sym (ap (slice_index joiner) e));
          }))
    ]

pub levels_ascend : (base : ℕ) (joiner : List ℕ) (levels : ℕ) → SlotsAscend (levels_slots base joiner levels)
levels_ascend base joiner zero = λ i j d lt within. absurd (omega arith)
levels_ascend base joiner (suc level) =
    let own = slice_index joiner level in
    ascends-append (levels_slots base joiner level) (level_slots level own base) (levels_ascend base joiner level)
    (level_ascends level own base) (λ s t left right.
    let before = from_levels base joiner level s left in
    let is = from_level level own base t right in
    record { level = omega (arith, before.level, is.level); digit = λ e. absurd (omega (arith, before.level, is.level)) })

pub levels_len : (base : ℕ) (joiner : List ℕ) (levels : ℕ) → ((level : ℕ) → level < levels → slice_index joiner level < base)
    → length (levels_slots base joiner levels) ≡ levels * (base - 1)
levels_len base joiner zero digits = omega arith
levels_len base joiner (suc level) digits =
    let own = slice_index joiner level in
    let here = level_len level own base (digits level (omega arith)) in
    let before = levels_len base joiner level (λ k lt. digits k (omega arith)) in
    let joined = length-append (levels_slots base joiner level) (level_slots level own base) in
    let product : suc level * (base - 1) ≡ level * (base - 1) + (base - 1) = grind arith in
    omega (arith, here, before, joined, product)
