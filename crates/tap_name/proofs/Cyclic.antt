-- the first digit, cyclically, that passes
-- Cited above: first_cyclic-below, first_cyclic-passes
use Rattle.std.proofs.Common.{◌≡◌, ◌⊎◌, inl, inr, ℕ, ◌+◌, ◌<◌, ◌≤◌, Bool, true, zero, suc, arith, ap, sym, ◌∙◌}
use Rattle.std.proofs.lemmas.Bool.{cases_Bool, cases_lt, true≢false}
use Rattle.tap_name.specs.Cyclic.{first_cyclic, first_from, next_digit}
use Rattle.tap_name.proofs.Digits.{next_below, next_is}

-- a digit is one of those that are tried: as many as are left, cyclically from this one on
abbrev IsTried : ℕ → ℕ → ℕ → ℕ → Type 0
IsTried base target left digit = (digit ≤ target) × (target < digit + left) ⊎ (target + base < digit + left)

tried_next : (base target left digit : ℕ) → digit < base → target < base → (digit ≡ target → ⊥) → IsTried base target (suc left) digit
    → (next_digit base digit < base) × IsTried base target left (next_digit base digit)
tried_next base target left digit below inside apart tried =
    elim (next_is base digit below) [
      | inl w ↦ elim tried [ inl here ↦ rw w.0 (w.1, inl (omega (arith, apart), omega arith)) | inr past ↦ rw w.0 (w.1, inr (omega arith)) ]
      | inr w ↦ elim tried [ inl here ↦ absurd (apart (omega arith)) | inr past ↦ rw w.0 (omega arith, inl (omega arith, omega arith)) ]
    ]

first_from-passes : (base : ℕ) (passes : ℕ → Bool) (target : ℕ) → target < base → passes target ≡ true
    → (left digit : ℕ) → digit < base → IsTried base target left digit → passes (first_from base passes left digit) ≡ true
first_from-passes base passes target inside h zero digit below tried =
    elim tried [ inl here ↦ absurd (omega arith) | inr past ↦ absurd (omega arith) ]
first_from-passes base passes target inside h (suc left) digit below tried =
    elim (cases_Bool (passes digit)) [
      | inl e ↦ rw e e
      | inr e ↦
          let apart : digit ≡ target → ⊥ = λ same. true≢false (sym h ∙ ap passes (sym same) ∙ e) in
          let next = tried_next base target left digit below inside apart tried in
          rw e (first_from-passes base passes target inside h left (next_digit base digit) next.0 next.1)
    ]

first_from-below : (base : ℕ) (passes : ℕ → Bool) (left digit : ℕ) → digit < base → first_from base passes left digit < base
first_from-below base passes zero digit below = below
first_from-below base passes (suc left) digit below =
    elim (cases_Bool (passes digit)) [
      | inl e ↦ rw e below
      | inr e ↦ rw e (first_from-below base passes left (next_digit base digit) (next_below base digit below))
    ]

-- where some digit passes, the one that is found does
pub first_cyclic-passes : (base : ℕ) (passes : ℕ → Bool) (target wanted : ℕ) → target < base → passes target ≡ true
    → wanted < base → passes (first_cyclic base passes wanted) ≡ true
first_cyclic-passes base passes target wanted inside h below =
    first_from-passes base passes target inside h base wanted below
    (elim (cases_lt target wanted) [ inl past ↦ inr (omega arith) | inr here ↦ inl (here, omega arith) ])

-- and it is a digit
pub first_cyclic-below : (base : ℕ) (passes : ℕ → Bool) (wanted : ℕ) → wanted < base → first_cyclic base passes wanted < base
first_cyclic-below base passes wanted below = first_from-below base passes base wanted below
