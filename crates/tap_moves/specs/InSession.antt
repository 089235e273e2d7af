-- What a step sends in the sessions of joins, and which session it opens.
use Rattle.std.specs.Prelude.{◌≡◌, ◌⊎◌, ℕ, ◌+◌, ◌≤◌, List, length}
use Rattle.tap_session.specs.declared.parent.Parent.{Parent}
use Rattle.tap_session.specs.declared.parent.Parent.TheVariants.{Node}
use Rattle.tap_session.specs.Sessions.{opened_with}
use Rattle.tap_wire.specs.declared.frame.Frame.{Frame}
use Rattle.tap_rule.specs.Event.{Acted}
use Rattle.tap_rule.specs.Node.{NodeState, name_of}
use Rattle.tap_rule.specs.Sent.{IsAmong}
use Rattle.tap_rule.specs.LinkSteps.{IsParentTold}
use Rattle.tap_safety.specs.Sessions.{Belongs, ways_of}
use Rattle.tap_safety.specs.Exchanges.{numbered_from}

-- The node opens its next session, for this parent, and waits in it for at least one answer; each frame that is sent in a session is sent
-- in that one, and as many are as it waits for.
pub record OpensNext (node : NodeState) (parent : Parent) (depth : ℕ) (acted : Acted) : Type 0 where
  pub waiting : ℕ
  pub some : 1 ≤ waiting
  pub sessions : acted.state.sessions ≡ opened_with node.sessions parent depth waiting
  pub sent : (f : Frame) (y : List ℕ) (k : ℕ) → IsAmong f acted.sent → Belongs f y k
      → (y ≡ name_of node) × (k ≡ node.sessions.opened + 1)
  pub counted : (n : ℕ) → length (ways_of (name_of node) (node.sessions.opened + 1) (numbered_from n acted.sent)) ≡ waiting

-- The node opens none, and answers the parent; no frame is sent in another session than the parent, and one in that.
pub record AnswersAtOnce (node : NodeState) (parent : Parent) (acted : Acted) : Type 0 where
  pub sessions : acted.state.sessions ≡ node.sessions
  pub told : IsParentTold node parent acted.sent
  pub sent : (f : Frame) (y : List ℕ) (k : ℕ) → IsAmong f acted.sent → Belongs f y k → parent ≡ Node y k
  pub one : (y : List ℕ) (k n : ℕ) → parent ≡ Node y k → length (ways_of y k (numbered_from n acted.sent)) ≡ 1

-- one of the two
abbrev pub OpensOrAnswers : NodeState → Parent → ℕ → Acted → Type 0
OpensOrAnswers node parent depth acted = OpensNext node parent depth acted ⊎ AnswersAtOnce node parent acted
