-- A step of a system that the rule of a node makes.
use Rattle.std.specs.Prelude.{◌≡◌, ◌⊎◌, ℕ, false, List, None, Some}
use Rattle.tap_name.specs.Settings.{SettingsValue}
use Rattle.tap_wire.specs.declared.frame.Body.{Body}
use Rattle.tap_rule.specs.Act.{act}
use Rattle.tap_rule.specs.Event.{Acted, Start}
use Rattle.tap_rule.specs.Event.Event.{Starts, Takes}
use Rattle.tap_rule.specs.Event.Start.{Join}
use Rattle.tap_rule.specs.KeptNode.{IsNode}
use Rattle.tap_rule.specs.RuleLaws.{frame_to}
use Rattle.tap_rule.specs.Node.{NodeState, joiner, name_of}
use Rattle.tap_rule.specs.Strange.{is_strange}
use Rattle.tap_safety.specs.System.{System}
use Rattle.tap_safety.specs.Exchanges.{ChangesAt, HasSent, IsTaken}

-- what comes of a frame with this sender and this body at a node
abbrev pub taken_at : NodeState → List ℕ → Body → Acted
taken_at node from body = act node (Takes (frame_to node from body))

-- A node takes a frame that isn't strange to it: the frame goes, what its rule sends comes, and the node is left as its rule leaves it.
pub record TakesByRule (s s' : System) (number : ℕ) (node : NodeState) (from : List ℕ) (body : Body) : Type 0 where
  pub is_node : IsNode node
  pub known : is_strange node (frame_to node from body) ≡ false
  pub taken : IsTaken s s' number (frame_to node from body) (taken_at node from body).sent
  pub at : ChangesAt s s' (name_of node) node (taken_at node from body).state

-- no joiner is started: the surrogates stay
abbrev pub StartsNone : System → System → Type 0
StartsNone s s' = (b : List ℕ) → s'.surrogate b ≡ s.surrogate b

-- A node starts something: what its rule sends comes, and the node is left as its rule leaves it.
pub record StartsByRule (s s' : System) (node : NodeState) (start : Start) : Type 0 where
  pub has_sent : HasSent s s' (act node (Starts start)).sent
  pub at : ChangesAt s s' (name_of node) node (act node (Starts start)).state

-- A new name starts to join by a node that it knows.
pub record BeginsByRule (p : SettingsValue) (s s' : System) (x via : List ℕ) : Type 0 where
  pub fresh : s.node x ≡ None
  pub unstarted : s.surrogate x ≡ None
  pub has_sent : HasSent s s' (act (joiner p x) (Starts (Join via))).sent
  pub is : s'.node x ≡ Some (act (joiner p x) (Starts (Join via))).state
  pub others : (y : List ℕ) → (y ≡ x) ⊎ (s'.node y ≡ s.node y)
