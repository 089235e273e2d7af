-- What is known of a frame under way as it comes to its receiver: whether it is strange there, whether there is a rule for it, and that the
-- session that it answers is open.
use Rattle.std.specs.Prelude.{◌≡◌, ◌⊎◌, ◌==◌, ℕ, Bool, false, true, List, Some}
use Rattle.tap_name.specs.Settings.{SettingsValue}
use Rattle.tap_session.specs.Session.{Session}
use Rattle.tap_wire.specs.declared.frame.Body.{Body}
use Rattle.tap_wire.specs.declared.frame.Body.TheVariants.{Cast, Done, Forget, Gone, Link, Release}
use Rattle.tap_rule.specs.HasRule.{HasRule}
use Rattle.tap_rule.specs.RuleLaws.{frame_to}
use Rattle.tap_rule.specs.Node.{NodeState, Status, join_session_at, name_of}
use Rattle.tap_rule.specs.Node.Status.{Gone as GoneStatus}
use Rattle.tap_rule.specs.QuietSteps.{IsQuiet}
use Rattle.tap_rule.specs.Strange.{is_strange, most_depth}
use Rattle.tap_safety.specs.FewSessions.{SessionsAreFew}
use Rattle.tap_safety.specs.Invariant.{Basis}
use Rattle.tap_safety.specs.Notices.{IsNotice}
use Rattle.tap_safety.specs.System.{System, AmongFrames}
use Rattle.tap_moves.specs.InvariantLaws.{IsDelivery, IsFilledThere, IsTakenThere}
use Rattle.tap_moves.specs.KnownNames.{AreNodes}
use Rattle.tap_moves.specs.PinsRule.{IsEndedStatus}

-- The basis of the invariant holds, each node is one that steps keep valid, with few open sessions of each joiner, and a frame of this
-- number, sender and body is under way to this node. Nothing is said of whether the frame is strange to it.
pub record Arrives (p : SettingsValue) (s : System) (number : ℕ) (node : NodeState) (from : List ℕ) (body : Body) : Type 0 where
  pub invariant : Basis p s
  pub nodes : AreNodes p s
  pub few : SessionsAreFew p s
  pub among : AmongFrames number (frame_to node from body) s.frames
  pub at : s.node (name_of node) ≡ Some node

-- ---- strange frames

-- a copy of a cast at the greatest depth
abbrev pub is_deepest_copy : Body → Bool
is_deepest_copy (Cast cast level session depth word) = depth == most_depth
is_deepest_copy _ = false

-- A frame is strange to its receiver exactly if it is such a copy. That no copy is so deep is a fact of casts, of which the invariant says
-- nothing.
abbrev pub StrangeExactly : Type 0
StrangeExactly = (p : SettingsValue) (s : System) (number : ℕ) (node : NodeState) (from : List ℕ) (body : Body)
    → Arrives p s number node from body → is_strange node (frame_to node from body) ≡ is_deepest_copy body

-- so each other frame is delivered, as the laws of what a delivery keeps ask
abbrev pub OthersAreDelivered : Type 0
OthersAreDelivered = (p : SettingsValue) (s : System) (number : ℕ) (node : NodeState) (from : List ℕ) (body : Body)
    → Arrives p s number node from body → is_deepest_copy body ≡ false → IsDelivery p s number node from body

-- ---- rules

-- Which frames may come to a node without a rule for them: a Release or a Forget to one that has ended, and a Link to one that is gone. Of
-- a Gone, and of frames about pointers, lookups and casts, nothing is known here.
abbrev pub MayLackRule : Status → Body → Type 0
MayLackRule status Release = IsEndedStatus status
MayLackRule status Forget = IsEndedStatus status
MayLackRule status (Link version on) = status ≡ GoneStatus
MayLackRule status Gone = Unit {0}
MayLackRule status other = IsQuiet other

-- for each other frame there is a rule at its receiver
abbrev pub OthersHaveRules : Type 0
OthersHaveRules = (p : SettingsValue) (s : System) (number : ℕ) (node : NodeState) (from : List ℕ) (body : Body)
    → Arrives p s number node from body → HasRule node.status body ⊎ MayLackRule node.status body

-- the Done of a join that was given up, and a Release or a Forget at a node that has ended: what they keep is said by other laws
abbrev pub IsSetApart : NodeState → Body → Type 0
IsSetApart node Done = node.abandoned ≡ true
IsSetApart node Release = IsEndedStatus node.status
IsSetApart node Forget = IsEndedStatus node.status
IsSetApart node _ = ⊥

-- Each frame but the notices of a departure comes where the laws of sessions want it taken, and where those of tables do, unless it is set
-- apart.
abbrev pub TakenWhereDue : Type 0
TakenWhereDue = (p : SettingsValue) (s : System) (number : ℕ) (node : NodeState) (from : List ℕ) (body : Body)
    → Arrives p s number node from body → (IsNotice body → ⊥)
    → IsTakenThere node body × (IsFilledThere node body ⊎ IsSetApart node body)

-- ---- answers

-- an answer comes to a node that keeps the session which it answers
abbrev pub AnswersOpenSession : (ℕ → Body) → Type 0
AnswersOpenSession body = (p : SettingsValue) (s : System) (number : ℕ) (node : NodeState) (from : List ℕ) (session : ℕ)
    → Arrives p s number node from (body session) → (kept : Session) × (join_session_at node session ≡ Some kept)
