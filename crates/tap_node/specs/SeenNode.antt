-- What a node keeps, as contracts see it, and what holds of it.
--
-- Rule: docs/PROTOCOL.md, "Nodes".
use Rattle.std.specs.Prelude.{◌≡◌, ℕ, false, List}
use Rattle.tap_name.specs.Name.{IsName}
use Rattle.tap_name.specs.Settings.{SettingsValue}
use Rattle.tap_wire.specs.declared.frame.Body.{Body}
use Rattle.tap_rule.specs.Event.{Start}
use Rattle.tap_rule.specs.FrameRules.{rule_of_frame}
use Rattle.tap_rule.specs.StartRules.{rule_of_start}
use Rattle.tap_session.specs.Session.{SessionsValue}
use Rattle.tap_rule.specs.Node.{NodeState, name_of, settings_of}
use Rattle.tap_rule.specs.Node.Status.{Gone as GoneStatus, Ceased as CeasedStatus}
use Rattle.tap_node.specs.declared.state.State.{State}
use Rattle.tap_node.specs.declared.state.State.TheVariants.{Joining, Core, Leaving, Gone, Ceased, Ended}
use Rattle.tap_node.specs.Node.{NodeValue, running, stopped}
use Rattle.tap_node_common.specs.SoundNode.{IsSoundNode}
use Rattle.tap_node_common.specs.StepsAs.{FollowsAs}
use Rattle.tap_node_common.specs.declared.news.News.{News}
use Rattle.tap_core_node.specs.State.{core_state}
use Rattle.tap_node_common.specs.States.{ended_state}
use Rattle.tap_joining_node.specs.State.{joining_state}
use Rattle.tap_leaving_node.specs.State.{leaving_state}

-- a node with these settings and this name, by what it keeps for its status
abbrev pub node_value : SettingsValue → List ℕ → State → NodeValue
node_value p name (Joining node) = running (joining_state node)
node_value p name (Core node) = running (core_state node)
node_value p name (Leaving node) = running (leaving_state node)
node_value p name (Gone sessions) = running (ended_state GoneStatus p name sessions)
node_value p name (Ceased sessions) = running (ended_state CeasedStatus p name sessions)
node_value p name (Ended sessions) = stopped (ended_state GoneStatus p name sessions)

-- its state
abbrev pub state_held : SettingsValue → List ℕ → State → NodeState
state_held p name state = (node_value p name state).state

-- it has this name and these settings, and if it takes steps it is sound
pub record IsKeptFor (p : SettingsValue) (own : List ℕ) (node : NodeValue) : Type 0 where
  pub is_name : IsName p own
  pub name : name_of node.state ≡ own
  pub settings : settings_of node.state ≡ p
  pub sound : node.ended ≡ false → IsSoundNode node.state

-- it takes steps, and has this name and these settings
pub record IsHeldBy (p : SettingsValue) (own : List ℕ) (state : State) : Type 0 where
  pub runs : (node_value p own state).ended ≡ false
  pub is_name : IsName p own
  pub name : name_of (state_held p own state) ≡ own
  pub settings : settings_of (state_held p own state) ≡ p

-- it takes steps afterwards, and has done as the rule of a frame says with this sender and this body
pub record FollowsFrom (p : SettingsValue) (name : List ℕ) (before after : State) (from : List ℕ) (body : Body) (held sent : List (List ℕ)) (news : News) : Type 0 where
  pub runs : (node_value p name after).ended ≡ false
  pub follows : FollowsAs (state_held p name before)
      (rule_of_frame (state_held p name before).status (state_held p name before) from body) (state_held p name after) held sent news

-- the same at a start
pub record StartsFrom (p : SettingsValue) (name : List ℕ) (before after : State) (begun : Start) (held sent : List (List ℕ)) (news : News) : Type 0 where
  pub runs : (node_value p name after).ended ≡ false
  pub follows : FollowsAs (state_held p name before)
      (rule_of_start (state_held p name before).status (state_held p name before) begun) (state_held p name after) held sent news

-- it takes no steps any more
pub record IsEnded (state : State) : Type 0 where
  pub sessions : SessionsValue
  pub is : state ≡ Ended sessions
