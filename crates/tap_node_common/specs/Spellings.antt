-- The frames that a step sends, as bytes.
--
-- Rule: docs/PROTOCOL.md, "Steps of a node".
use Rattle.std.specs.Prelude.{ℕ, List, All, map}
use Rattle.tap_name.specs.Settings.{SettingsValue}
use Rattle.tap_wire.specs.declared.frame.Frame.{Frame}
use Rattle.tap_wire.specs.Spelling.{IsFrame, spelling}

-- the spellings of these frames, in their order
abbrev pub spelled : SettingsValue → List Frame → List (List ℕ)
spelled p frames = map (spelling p) frames

-- the fields of each of these frames keep their rules, so that it has a spelling
abbrev pub HaveSpellings : SettingsValue → List Frame → Type 0
HaveSpellings p frames = All (IsFrame p) frames
