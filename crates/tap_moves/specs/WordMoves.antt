-- Each frame of a join where a rule takes it, but the Done of a join that was given up, and those of pointers and casts: what is said of
-- links, once it is delivered.
use Rattle.std.specs.Prelude.{ℕ, List}
use Rattle.tap_name.specs.Settings.{SettingsValue}
use Rattle.tap_wire.specs.declared.frame.Body.{Body}
use Rattle.tap_rule.specs.Node.{NodeState}
use Rattle.tap_safety.specs.Bookkeeping.{AreStamped}
use Rattle.tap_safety.specs.System.{System}
use Rattle.tap_moves.specs.Delivered.{after_delivery}
use Rattle.tap_moves.specs.InvariantLaws.{IsDelivery, IsFilledThere}
use Rattle.tap_moves.specs.TiesLaws.{WordsStand}

-- the last words of links stand, and a Forget is to come wherever a pin is on a node that has ceased
abbrev pub TakenWords : Type 0
TakenWords = (p : SettingsValue) (s : System) (number : ℕ) (node : NodeState) (from : List ℕ) (body : Body)
    → IsDelivery p s number node from body → IsFilledThere node body → WordsStand (after_delivery p s number)

-- a word is under way once, and while a node has a table its stamp is no less than its words' versions
abbrev pub TakenStamped : Type 0
TakenStamped = (p : SettingsValue) (s : System) (number : ℕ) (node : NodeState) (from : List ℕ) (body : Body)
    → IsDelivery p s number node from body → IsFilledThere node body → AreStamped (after_delivery p s number)
