-- The room in which a line is put together.
use Rattle.std.specs.Prelude.{ℕ}

-- a name has at most so many digits, which is the limit of `AreWithinLimits` in `tap_name`
abbrev pub most_name_digits : ℕ
most_name_digits = 40

-- a number below 2^32 has at most so many in decimal
abbrev pub most_number_digits : ℕ
most_number_digits = 10
