-- A frame under way that is delivered by a move of the system.
use Rattle.std.specs.Prelude.{◌≡◌, ℕ, false, List, Some}
use Rattle.tap_name.specs.Settings.{SettingsValue}
use Rattle.tap_wire.specs.declared.frame.Body.{Body}
use Rattle.tap_rule.specs.KeptNode.{IsNode}
use Rattle.tap_rule.specs.RuleLaws.{frame_to}
use Rattle.tap_rule.specs.Node.{NodeState, name_of}
use Rattle.tap_rule.specs.Strange.{is_strange}
use Rattle.tap_rule.specs.Event.{Start}
use Rattle.tap_safety.specs.Move.Move.{Begins, Delivers}
use Rattle.tap_safety.specs.Moved.{moved}
use Rattle.tap_safety.specs.Exchanges.{AreNumbered}
use Rattle.tap_safety.specs.System.{System, AmongFrames}

-- A frame of this number, sender and body is under way to the node, to which it isn't strange.
pub record IsArriving (s : System) (number : ℕ) (node : NodeState) (from : List ℕ) (body : Body) : Type 0 where
  pub numbers : AreNumbered s
  pub among : AmongFrames number (frame_to node from body) s.frames
  pub at : s.node (name_of node) ≡ Some node
  pub is_node : IsNode node
  pub known : is_strange node (frame_to node from body) ≡ false

-- the system once it is delivered
abbrev pub after_delivery : SettingsValue → System → ℕ → System
after_delivery p s number = moved p s (Delivers number)

-- and once a node has started something
abbrev pub after_start : SettingsValue → System → List ℕ → Start → System
after_start p s x start = moved p s (Begins x start)
