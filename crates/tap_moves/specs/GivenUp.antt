-- The Done of a join that was given up: its node has ceased, and what holds once it is delivered.
use Rattle.std.specs.Prelude.{◌≡◌, ℕ, true, List}
use Rattle.tap_name.specs.Settings.{SettingsValue}
use Rattle.tap_wire.specs.declared.frame.Body.TheVariants.{Done}
use Rattle.tap_rule.specs.Node.{NodeState}
use Rattle.tap_safety.specs.Bookkeeping.{AreStamped, EndedHaveNoLinks}
use Rattle.tap_safety.specs.Filled.{AreFilled}
use Rattle.tap_safety.specs.Soft.{NamesSoft}
use Rattle.tap_safety.specs.System.{System}
use Rattle.tap_moves.specs.CalmMoves.{AreSought, IsPeaceful}
use Rattle.tap_moves.specs.Delivered.{after_delivery}
use Rattle.tap_moves.specs.InvariantLaws.{IsDelivery}
use Rattle.tap_moves.specs.TiesLaws.{WordsStand}

-- the Done of a join that was given up is delivered
pub record EndsGivenUp (p : SettingsValue) (s : System) (number : ℕ) (node : NodeState) (from : List ℕ) : Type 0 where
  pub delivery : IsDelivery p s number node from Done
  pub given_up : node.abandoned ≡ true

-- what leads to tables without holes holds after it
abbrev pub GivenUpFills : Type 0
GivenUpFills = (p : SettingsValue) (s : System) (number : ℕ) (node : NodeState) (from : List ℕ) → EndsGivenUp p s number node from
    → AreFilled p s → AreFilled p (after_delivery p s number)

-- a node that has ended has no link
abbrev pub GivenUpEnded : Type 0
GivenUpEnded = (p : SettingsValue) (s : System) (number : ℕ) (node : NodeState) (from : List ℕ) → EndsGivenUp p s number node from
    → EndedHaveNoLinks (after_delivery p s number)

-- settled links are to core nodes, and pins to soft ones
abbrev pub GivenUpSoft : Type 0
GivenUpSoft = (p : SettingsValue) (s : System) (number : ℕ) (node : NodeState) (from : List ℕ) → EndsGivenUp p s number node from
    → NamesSoft (after_delivery p s number)

-- who isn't started is known to nobody but its one Seek, and Tells are sound
abbrev pub GivenUpSeeks : Type 0
GivenUpSeeks = (p : SettingsValue) (s : System) (number : ℕ) (node : NodeState) (from : List ℕ) → EndsGivenUp p s number node from
    → AreSought p (after_delivery p s number)

-- nobody departs
abbrev pub GivenUpPeaceful : Type 0
GivenUpPeaceful = (p : SettingsValue) (s : System) (number : ℕ) (node : NodeState) (from : List ℕ) → EndsGivenUp p s number node from
    → IsPeaceful (after_delivery p s number)

-- a word is under way once, and while a node has a table its stamp is no less than its words' versions
abbrev pub GivenUpStamped : Type 0
GivenUpStamped = (p : SettingsValue) (s : System) (number : ℕ) (node : NodeState) (from : List ℕ) → EndsGivenUp p s number node from
    → AreStamped (after_delivery p s number)

-- the last words of links stand, and a Forget is to come wherever a pin is on a node that has ceased
abbrev pub GivenUpWords : Type 0
GivenUpWords = (p : SettingsValue) (s : System) (number : ℕ) (node : NodeState) (from : List ℕ) → EndsGivenUp p s number node from
    → WordsStand (after_delivery p s number)
