-- The ends of frames are nodes, after each frame and each start; and who is answered for a lookup or a cast.
use Rattle.std.specs.Prelude.{◌≡◌, ℕ, ◌<◌, List, All, Some}
use Rattle.tap_name.specs.Prefix.{lcp}
use Rattle.tap_name.specs.Settings.{SettingsValue}
use Rattle.tap_session.specs.declared.parent.Parent.{Parent}
use Rattle.tap_session.specs.declared.parent.Parent.TheVariants.{Node, Root}
use Rattle.tap_wire.specs.declared.frame.Body.TheVariants.{Find}
use Rattle.tap_wire.specs.declared.frame.Frame.{Frame}
use Rattle.tap_rule.specs.Event.{Start}
use Rattle.tap_rule.specs.Node.{NodeState}
use Rattle.tap_safety.specs.AtRest.{AreMembers, system_at_rest}
use Rattle.tap_safety.specs.Bookkeeping.{HaveEnds}
use Rattle.tap_safety.specs.Invariant.{Basis}
use Rattle.tap_safety.specs.Move.{may_start}
use Rattle.tap_safety.specs.Seeking.{HasNode}
use Rattle.tap_safety.specs.System.{System, AmongFrames}
use Rattle.tap_moves.specs.Delivered.{after_delivery, after_start}
use Rattle.tap_moves.specs.KnownNames.{AreNodes, IsNamedStart}

-- a node asked for the lookup of a Find, and its receiver shares fewer digits with it than the level to which it has come
pub record HasAsker (s : System) (to asker : List ℕ) (level : ℕ) : Type 0 where
  pub known : HasNode s asker
  pub far : lcp to asker < level

-- who is answered in the end of a session of casts at x is another node; at its root nobody is
abbrev pub IsAnswerable : System → List ℕ → Parent → Type 0
IsAnswerable s x (Root name) = Unit {0}
IsAnswerable s x (Node name session) = HasNode s name × (name ≡ x → ⊥)

-- Who asks for a lookup or a copy of a cast can be answered: each Find under way has such an asker, and each session of casts is asked for
-- by another node.
pub record HaveAskers (s : System) : Type 0 where
  pub finds : (number ticket : ℕ) (from to object asker : List ℕ) (level : ℕ)
      → AmongFrames number (record { from = from; to = to; body = Find ticket object asker level }) s.frames → HasAsker s to asker level
  pub casts : (x : List ℕ) (node : NodeState) → s.node x ≡ Some node → All (λ a. IsAnswerable s x a.parent) node.cast_sessions.sessions

-- the members at rest have it
abbrev pub AskersAtRest : Type 0
AskersAtRest = (p : SettingsValue) (members : List (List ℕ)) → AreMembers p members → HaveAskers (system_at_rest p members)

-- frames go between two nodes, and who asks can be answered
pub record HaveBothEnds (s : System) : Type 0 where
  pub ends : HaveEnds s
  pub askers : HaveAskers s

-- so it is after a frame of whatever kind, whatever the status of its receiver, be it strange or not
abbrev pub FrameEnds : Type 0
FrameEnds = (p : SettingsValue) (s : System) (number : ℕ) (frame : Frame) (node : NodeState) → Basis p s → AreNodes p s → HaveAskers s
    → AmongFrames number frame s.frames → s.node frame.to ≡ Some node → HaveBothEnds (after_delivery p s number)

-- and after whatever is started, a departure too
abbrev pub StartEnds : Type 0
StartEnds = (p : SettingsValue) (s : System) (x : List ℕ) (start : Start) → Basis p s → AreNodes p s → HaveAskers s
    → may_start p s x start → IsNamedStart p start → HaveBothEnds (after_start p s x start)
