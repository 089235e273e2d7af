-- what settings are seen as
use Rattle.std.specs.Prelude.{ℕ, ◌≤◌}

-- the base of the digits, the digits of a name, and how many links that are settled and not leaving a slot of a table
-- holds at most
pub record SettingsValue : Type 0 where
  pub base : ℕ
  pub digits : ℕ
  pub width : ℕ

-- each number is within its limit
pub record AreWithinLimits (p : SettingsValue) : Type 0 where
  pub base_from : 2 ≤ p.base
  pub base_to : p.base ≤ 16
  pub digits_from : 1 ≤ p.digits
  pub digits_to : p.digits ≤ 40
  pub width_from : 1 ≤ p.width
  pub width_to : p.width ≤ 4
