-- How many hexadecimal digits are taken at once: each byte as if it were a digit, and then whether it was.
use Rattle.std.specs.Prelude.{ℕ, ◌+◌, ◌*◌, ◌%◌, ◌==◌, nat_lt, Bool, if◌then◌else◌}
use Rattle.tap_name.specs.Digits.{text_of_digit}

-- the value of a digit; of any other byte, that of some digit
abbrev pub loose_value : ℕ → ℕ
loose_value byte = (byte % 16 + 9 * (if nat_lt 64 byte then 1 else 0)) % 16

-- whether a byte is the text of that digit
abbrev pub is_digit : ℕ → Bool
is_digit byte = text_of_digit (loose_value byte) == byte
