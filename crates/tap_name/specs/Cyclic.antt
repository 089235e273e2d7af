-- digits in their cyclic order
use Rattle.std.specs.Prelude.{◌==◌, ℕ, ◌+◌, zero, suc, Bool, if◌then◌else◌}

-- the next digit, and 0 after the last
abbrev pub next_digit : ℕ → ℕ → ℕ
next_digit base digit = if digit + 1 == base then 0 else digit + 1

-- the first digit from this one on, cyclically, that passes, among as many as are left to try; the last one where none does
abbrev pub first_from : ℕ → (ℕ → Bool) → ℕ → ℕ → ℕ
first_from base passes zero digit = digit
first_from base passes (suc left) digit = if passes digit then digit else first_from base passes left (next_digit base digit)

-- the first of all digits, cyclically from the wanted one, that passes
abbrev pub first_cyclic : ℕ → (ℕ → Bool) → ℕ → ℕ
first_cyclic base passes wanted = first_from base passes base wanted
