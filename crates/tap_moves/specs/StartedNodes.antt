-- What a node starts, but a departure: ended nodes and stamps afterwards.
use Rattle.std.specs.Prelude.{ℕ, List}
use Rattle.tap_name.specs.Settings.{SettingsValue}
use Rattle.tap_rule.specs.Event.{Start}
use Rattle.tap_safety.specs.Bookkeeping.{AreStamped, EndedHaveNoLinks}
use Rattle.tap_safety.specs.Invariant.{Basis}
use Rattle.tap_safety.specs.Move.{may_start}
use Rattle.tap_safety.specs.System.{System}
use Rattle.tap_moves.specs.Delivered.{after_start}
use Rattle.tap_moves.specs.InvariantLaws.{IsNew}
use Rattle.tap_moves.specs.KnownNames.{AreNodes}

-- a node that has ended has no link
abbrev pub StartEnded : Type 0
StartEnded = (p : SettingsValue) (s : System) (x : List ℕ) (start : Start) → Basis p s → AreNodes p s → may_start p s x start
    → IsNew s x start → EndedHaveNoLinks (after_start p s x start)

-- a word is under way once, and while a node has a table its stamp is no less than its words' versions
abbrev pub StartStamped : Type 0
StartStamped = (p : SettingsValue) (s : System) (x : List ℕ) (start : Start) → Basis p s → AreNodes p s → may_start p s x start
    → IsNew s x start → AreStamped (after_start p s x start)
