-- A stamp is seen as the number that it gave last.
use Rattle.std.specs.Prelude.{ℕ, ◌+◌, ◌≤◌}

-- a stamp that stood at one number and stands at another has given at most so many numbers
pub record HasGivenAtMost (most before now : ℕ) : Type 0 where
  pub forward : before ≤ now
  pub few : now ≤ before + most
