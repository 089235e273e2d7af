-- What no two lines share, what no line has, and from which text each is read.
use Rattle.std.specs.Prelude.{◌≡◌, ◌==◌, ◌↔◌, ℕ, Bool, false, List, All, Some}
use Rattle.tap_name.specs.Settings.{AreWithinLimits, SettingsValue}
use Rattle.tap_report.specs.Starts.{begin_line}
use Rattle.tap_line.specs.declared.line.Beginning.{Beginning}
use Rattle.tap_line.specs.declared.line.Line.{Line}
use Rattle.tap_line.specs.Line.{IsBeginning, IsLine, text_of_line}
use Rattle.tap_line.specs.Reading.{begin_of_text, line_of_text}

-- no byte is a line feed
abbrev pub HasNoFeed : List ℕ → Type 0
HasNoFeed text = All (λ byte. (byte == 10) ≡ false) text

-- Of lines of a log of a run with settings within the limits, none has a line feed, and no two have the same text.
pub record LinesAreTold : Type 0 where
  pub no_feed : (p : SettingsValue) (carrier : Bool) (line : Line) → AreWithinLimits p → IsLine p carrier line
      → HasNoFeed (text_of_line p line)
  pub one_line : (p : SettingsValue) (carrier : Bool) (line other : Line) → AreWithinLimits p → IsLine p carrier line
      → IsLine p carrier other → text_of_line p line ≡ text_of_line p other → line ≡ other

-- A text is read as a line exactly if it is that line's one text, and the line is one of a run with these settings; and as the first line of a
-- beginning, before any settings are known, exactly if it is that one's.
pub record LinesAreReadBack : Type 0 where
  pub any_line : (p : SettingsValue) (carrier : Bool) (text : List ℕ) (line : Line) → AreWithinLimits p
      → (line_of_text p carrier text ≡ Some line) ↔ ((text ≡ text_of_line p line) × IsLine p carrier line)
  pub beginning : (text : List ℕ) (begun : Beginning)
      → (begin_of_text text ≡ Some begun) ↔ ((text ≡ begin_line begun.settings begun.frames) × IsBeginning begun)
