-- Each Tell under way comes from a core node that covers its joiner.
use Rattle.std.specs.Prelude.{◌≡◌, ℕ, ◌+◌, ◌<◌, List}
use Rattle.tap_name.specs.Prefix.{lcp}
use Rattle.tap_name.specs.Settings.{SettingsValue}
use Rattle.tap_name.specs.declared.slot.Slot.{Slot}
use Rattle.tap_wire.specs.declared.frame.TellFields.{TellFields}
use Rattle.tap_safety.specs.Frames.{tell_body}
use Rattle.tap_safety.specs.System.{System, CoversAt, IsCoreNode, IsJoiner, IsUnderWay}
use Rattle.tap_safety.specs.Regions.{IsIn, prefix_of}
use Rattle.tap_safety.specs.Soft.{IsSoft}

-- a Tell of a joiner to another node of its region, at the level that its sender has for the receiver
pub record IsSoundTell (p : SettingsValue) (s : System) (from to : List ℕ) (fields : TellFields) : Type 0 where
  pub joiner : IsJoiner s fields.joiner
  pub core : IsCoreNode s from
  pub cover : ℕ
  pub covers : CoversAt s from fields.joiner cover
  pub inside : IsIn s fields.joiner to
  pub apart : to ≡ fields.joiner → ⊥
  pub level : fields.level ≡ lcp from to + 1
  pub near : lcp from to < p.digits
  pub prefix : fields.prefix ≡ prefix_of s fields.joiner
  pub soft : IsSoft s to

pub record TellsAreSound (p : SettingsValue) (s : System) : Type 0 where
  pub each : (from to : List ℕ) (fields : TellFields) (watch : List Slot) → IsUnderWay s from to (tell_body fields watch)
      → IsSoundTell p s from to fields
