-- how digits are printed
use Rattle.std.specs.Prelude.{ℕ, ◌+◌, ◌-◌, nat_lt, if◌then◌else◌}

-- the byte that a digit is printed as: `0` to `9`, then `a` to `f`
abbrev pub text_of_digit : ℕ → ℕ
text_of_digit d = if nat_lt d 10 then 48 + d else 87 + d

-- the value of a printed digit, and 16 where the byte is none
abbrev pub digit_of_text : ℕ → ℕ
digit_of_text c =
    if nat_lt c 48 then 16 else if nat_lt c 58 then c - 48 else if nat_lt c 97 then 16 else if nat_lt c 103 then c - 87 else 16
