-- Frames that their receivers ignore: a Release or a Forget at a node that has ended, and frames of pointers and casts.
use Rattle.std.specs.Prelude.{◌≡◌, ℕ, List, Some}
use Rattle.tap_name.specs.Settings.{SettingsValue}
use Rattle.tap_wire.specs.declared.frame.Body.{Body}
use Rattle.tap_wire.specs.declared.frame.Body.TheVariants.{Forget, Release}
use Rattle.tap_rule.specs.RuleLaws.{IsIgnored, frame_to}
use Rattle.tap_rule.specs.Node.{NodeState, name_of}
use Rattle.tap_rule.specs.QuietSteps.{IsQuiet}
use Rattle.tap_safety.specs.Invariant.{Basis}
use Rattle.tap_safety.specs.Moved.{IsLost}
use Rattle.tap_safety.specs.System.{System, AmongFrames}
use Rattle.tap_moves.specs.ByRule.{taken_at}
use Rattle.tap_moves.specs.Delivered.{after_delivery}
use Rattle.tap_moves.specs.PinsRule.{IsEndedStatus}
use Rattle.tap_safety_moves.specs.Sound.{Sound}

-- what a node may ignore without harm: a Release or a Forget, if it has ended, and a frame of pointers or casts
abbrev pub MayIgnore : NodeState → Body → Type 0
MayIgnore node Release = IsEndedStatus node.status
MayIgnore node Forget = IsEndedStatus node.status
MayIgnore node other = IsQuiet other

-- such a frame is under way to a node, which ignores it
pub record IgnoresFrame (p : SettingsValue) (s : System) (number : ℕ) (node : NodeState) (from : List ℕ) (body : Body) : Type 0 where
  pub invariant : Basis p s
  pub among : AmongFrames number (frame_to node from body) s.frames
  pub at : s.node (name_of node) ≡ Some node
  pub ignored : IsIgnored node (taken_at node from body)
  pub may : MayIgnore node body

-- once it is delivered it is as one that nobody takes
abbrev pub IgnoredIsLost : Type 0
IgnoredIsLost = (p : SettingsValue) (s : System) (number : ℕ) (node : NodeState) (from : List ℕ) (body : Body)
    → IgnoresFrame p s number node from body → IsLost p s number (frame_to node from body)

-- and the whole invariant holds as before
abbrev pub IgnoredKeeps : Type 0
IgnoredKeeps = (p : SettingsValue) (s : System) (number : ℕ) (node : NodeState) (from : List ℕ) (body : Body)
    → IgnoresFrame p s number node from body → Sound p s → Sound p (after_delivery p s number)
