-- Frames under way have spellings, and there are few names.
use Rattle.std.specs.Prelude.{ℕ, ◌≤◌, List, length}
use Rattle.tap_name.specs.Names.{Among}
use Rattle.tap_name.specs.Settings.{SettingsValue}
use Rattle.tap_wire.specs.Spelling.{IsFrame}
use Rattle.tap_wire.specs.declared.frame.Frame.{Frame}
use Rattle.tap_rule.specs.Sent.{IsAmong}
use Rattle.tap_safety.specs.System.{System, AmongFrames}
use Rattle.tap_safety.specs.Seeking.{HasNode}

-- each frame under way has a spelling: its ends, and the names in it, are names of the settings
pub record AreSpelled (p : SettingsValue) (s : System) : Type 0 where
  pub each : (number : ℕ) (f : Frame) → AmongFrames number f s.frames → IsFrame p f

-- there are, or were, at most so many nodes
pub record AreAtMost (s : System) (most : ℕ) : Type 0 where
  pub names : List (List ℕ)
  pub few : length names ≤ most
  pub all : (x : List ℕ) → HasNode s x → Among x names

-- how many names a system has at most, ever
abbrev pub most_names : ℕ
most_names = 256

-- each frame that is sent has a spelling
abbrev pub SendsSpelled : SettingsValue → List Frame → Type 0
SendsSpelled p sent = (f : Frame) → IsAmong f sent → IsFrame p f
