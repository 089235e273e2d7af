-- the mixer: a number of 64 bits, and the numbers of 32 bits that it gives one after the other
use Rattle.std.specs.Prelude.{ℕ, zero, suc, ◌+◌, ◌*◌, ◌/◌, ◌%◌, ◌^◌}

-- what a mixer keeps once it has given one more number
unfoldable pub mixed : ℕ → ℕ
mixed state = (state * 6364136223846793005 + 1442695040888963407) % 2 ^ 64

-- the number that it gives, by what it then keeps
abbrev pub high_half : ℕ → ℕ
high_half state = state / 2 ^ 32

-- what a mixer with this seed keeps once it has given so many numbers
abbrev pub state_after : ℕ → ℕ → ℕ
state_after seed zero = seed
state_after seed (suc count) = mixed (state_after seed count)

-- the number that a mixer with this seed gives at a place, from 0
abbrev pub drawn : ℕ → ℕ → ℕ
drawn seed place = high_half (state_after seed (suc place))
