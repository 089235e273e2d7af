-- a mixer whose numbers are counted
use Rattle.std.specs.Prelude.{ℕ, ◌+◌}

-- the seed of the mixer, and how many numbers it has given
pub record DrawsValue : Type 0 where
  pub seed : ℕ
  pub place : ℕ

-- the same, once so many more were given
abbrev pub further : DrawsValue → ℕ → DrawsValue
further draws count = record { seed = draws.seed; place = draws.place + count }
