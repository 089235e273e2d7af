-- The levels over which a node sends a word on: of each word it keeps the least one from which on it has sent it.
use Rattle.std.specs.Prelude.{ℕ, ◌&&◌, nat_le, nat_lt, Bool, false, Option, None, Some}

-- the level is this one or above, and below another
abbrev pub is_between : ℕ → ℕ → ℕ → Bool
is_between from to level = nat_le from level && nat_lt level to

-- a level at most this one is kept
abbrev pub is_kept : Option ℕ → ℕ → Bool
is_kept None level = false
is_kept (Some kept) level = nat_le kept level

-- the level from which on the word was sent already: the one that is kept, or the number of digits
abbrev pub sent_from : ℕ → Option ℕ → ℕ
sent_from digits None = digits
sent_from digits (Some kept) = kept
