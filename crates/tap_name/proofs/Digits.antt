-- digits in their cyclic order
-- Cited above: next_below, next_is
use Rattle.std.proofs.Common.{◌≡◌, ◌==◌, ◌⊎◌, inl, inr, ℕ, ◌+◌, ◌<◌, arith, refl}
use Rattle.std.proofs.lemmas.Bool.{cases_Bool, eqb-true, eqb-false}
use Rattle.tap_name.specs.Cyclic.{next_digit}

-- the next digit is one more, or 0
pub next_is : (base digit : ℕ) → digit < base
    → (next_digit base digit ≡ digit + 1) × (digit + 1 < base) ⊎ (next_digit base digit ≡ 0) × (digit + 1 ≡ base)
next_is base digit below =
    elim (cases_Bool (digit + 1 == base)) [
      | inl e ↦ inr (rw e refl, eqb-true (digit + 1) base e)
      | inr e ↦ let apart = eqb-false (digit + 1) base e in inl (rw e refl, omega (arith, apart))
    ]

pub next_below : (base digit : ℕ) → digit < base → next_digit base digit < base
next_below base digit below = elim (next_is base digit below) [ inl w ↦ rw w.0 w.1 | inr w ↦ rw w.0 (omega arith) ]
