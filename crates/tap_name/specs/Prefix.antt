-- how many digits two names share
use Rattle.std.specs.Prelude.{ℕ, List, nat_eq}
use Rattle.std.specs.List.{common_prefix_len}

-- a level: a number of first digits, which two names share, or which a message has come past
abbrev pub Level : Type 0
Level = ℕ

-- the length of the longest common prefix of two names
unfoldable pub lcp : List ℕ → List ℕ → ℕ
lcp a b = common_prefix_len nat_eq a b
