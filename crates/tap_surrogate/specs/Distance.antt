-- How near a name is to an object, in the cyclic order of digits.
use Rattle.std.specs.Prelude.{◌≡◌, ℕ, ◌+◌, ◌-◌, ◌<◌, ◌≤◌, nat_le, if◌then◌else◌, List, length, take, slice_index}

-- how many steps lead from one digit to another, cyclically
abbrev pub cyclic_distance : ℕ → ℕ → ℕ → ℕ
cyclic_distance base from to = if nat_le from to then to - from else to + base - from

-- the name a is as near to the object as b: where their digits first differ, no more steps lead
-- from the object's digit to that of a than to that of b
abbrev pub IsAsNear : ℕ → List ℕ → List ℕ → List ℕ → Type 0
IsAsNear base object a b =
    (level : ℕ) → level < length object → take level a ≡ take level b
    → cyclic_distance base (slice_index object level) (slice_index a level)
    ≤ cyclic_distance base (slice_index object level) (slice_index b level)
