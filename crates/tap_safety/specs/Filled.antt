-- Tables without holes, and what leads to them.
use Rattle.tap_name.specs.Settings.{SettingsValue}
use Rattle.tap_safety.specs.System.{System}
use Rattle.tap_safety.specs.Parts.{Cover, Covered, HoleFree, Low, Meet}

-- these five parts hold
pub record AreFilled (p : SettingsValue) (s : System) : Type 0 where
  pub covered : Covered p s
  pub meet : Meet s
  pub cover : Cover p s
  pub low : Low s
  pub hole_free : HoleFree p s
