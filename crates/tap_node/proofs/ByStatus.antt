-- What the part of a node does for its status is what the node does.
use Rattle.std.proofs.Common.{◌≡◌, ◌≢◌, ℕ, false, List, Some, refl}
use Rattle.tap_name.specs.Settings.{SettingsValue}
use Rattle.tap_session.specs.Session.{SessionsValue}
use Rattle.tap_wire.specs.declared.frame.Body.{Body}
use Rattle.tap_wire.specs.declared.frame.Body.TheVariants.{Done, Left}
use Rattle.tap_rule.specs.Node.Status.{Joining as JoiningStatus, Core as CoreStatus, Leaving as LeavingStatus, Gone as GoneStatus, Ceased as CeasedStatus}
use Rattle.tap_rule.specs.Ceasing.{takes_done}
use Rattle.tap_rule.specs.Event.{Start}
use Rattle.tap_rule.specs.FrameRules.{frame_at_ceased, frame_at_core, frame_at_joining, frame_at_leaving}
use Rattle.tap_rule.specs.Leaving.{takes_left}
use Rattle.tap_rule.specs.StartRules.{start_at_core, start_at_joining}
use Rattle.tap_node_common.specs.declared.news.News.{News}
use Rattle.tap_node_common.specs.declared.news.News.TheVariants.{Nothing}
use Rattle.tap_node_common.specs.States.{ended_state}
use Rattle.tap_node_common.specs.StepsAs.{FollowsAs}
use Rattle.tap_joining_node.specs.declared.joining_node.JoiningNode.{JoiningNode}
use Rattle.tap_joining_node.specs.State.{joining_state}
use Rattle.tap_core_node.specs.declared.core_node.CoreNode.{CoreNode}
use Rattle.tap_core_node.specs.State.{core_state}
use Rattle.tap_leaving_node.specs.declared.leaving_node.LeavingNode.{LeavingNode}
use Rattle.tap_leaving_node.specs.State.{leaving_state}
use Rattle.tap_node.specs.declared.state.State.{State}
use Rattle.tap_node.specs.declared.state.State.TheVariants.{Joining, Core, Leaving, Gone, Ceased, Ended}
use Rattle.tap_node.specs.SeenNode.{FollowsFrom, StartsFrom, node_value, state_held}

module _ (p : SettingsValue) (name : List ℕ) where
  module _ (before after : State) (from : List ℕ) (body : Body) (held sent : List (List ℕ)) (news : News) where
    pub joining_follows : (node next : JoiningNode) → before ≡ Joining node → after ≡ Joining next
        → FollowsAs (joining_state node) (frame_at_joining (joining_state node) from body) (joining_state next) held sent news
        → FollowsFrom p name before after from body held sent news
    joining_follows node next was is follows = rw (was, is) (record { runs = refl; follows = follows })

    pub core_follows : (node next : CoreNode) → before ≡ Core node → after ≡ Core next
        → FollowsAs (core_state node) (frame_at_core (core_state node) from body) (core_state next) held sent news
        → FollowsFrom p name before after from body held sent news
    core_follows node next was is follows = rw (was, is) (record { runs = refl; follows = follows })

    pub leaving_follows : (node next : LeavingNode) → before ≡ Leaving node → after ≡ Leaving next
        → FollowsAs (leaving_state node) (frame_at_leaving (leaving_state node) from body) (leaving_state next) held sent news
        → FollowsFrom p name before after from body held sent news
    leaving_follows node next was is follows = rw (was, is) (record { runs = refl; follows = follows })

    pub ceased_follows : (sessions left : SessionsValue) → before ≡ Ceased sessions → after ≡ Ceased left
        → FollowsAs (ended_state CeasedStatus p name sessions) (frame_at_ceased (ended_state CeasedStatus p name sessions) from body)
        (ended_state CeasedStatus p name left) held sent news
        → FollowsFrom p name before after from body held sent news
    ceased_follows sessions left was is follows = rw (was, is) (record { runs = refl; follows = follows })

  -- a node that is gone does nothing
  pub gone_stays : (state : State) (sessions : SessionsValue) (from : List ℕ) (body : Body) (sent : List (List ℕ)) → state ≡ Gone sessions
      → FollowsFrom p name state state from body sent sent Nothing
  gone_stays state sessions from body sent is =
      rw is (record { runs = refl; follows = record { state = refl; frames = refl; noted = refl } })

  -- a Done is for a joining node alone, and a Left for a leaving one
  pub done_elsewhere : (state : State) → (node_value p name state).ended ≡ false → ((node : JoiningNode) → state ≢ Joining node)
      → (from : List ℕ) (sent : List (List ℕ)) → FollowsFrom p name state state from Done sent sent Nothing
  unfolding frame_at_core frame_at_leaving frame_at_ceased
  done_elsewhere (Joining node) runs other from sent = absurd (other node refl)
  done_elsewhere (Core node) runs other from sent = record { runs = refl; follows = record { state = refl; frames = refl; noted = refl } }
  done_elsewhere (Leaving node) runs other from sent = record { runs = refl; follows = record { state = refl; frames = refl; noted = refl } }
  done_elsewhere (Gone sessions) runs other from sent = record { runs = refl; follows = record { state = refl; frames = refl; noted = refl } }
  done_elsewhere (Ceased sessions) runs other from sent = record { runs = refl; follows = record { state = refl; frames = refl; noted = refl } }
  done_elsewhere (Ended sessions) runs other from sent = record { runs = runs; follows = record { state = refl; frames = refl; noted = refl } }

  pub left_elsewhere : (state : State) → (node_value p name state).ended ≡ false → ((node : LeavingNode) → state ≢ Leaving node)
      → (from : List ℕ) (sent : List (List ℕ)) → FollowsFrom p name state state from Left sent sent Nothing
  unfolding frame_at_joining frame_at_core frame_at_ceased
  left_elsewhere (Joining node) runs other from sent = record { runs = refl; follows = record { state = refl; frames = refl; noted = refl } }
  left_elsewhere (Core node) runs other from sent = record { runs = refl; follows = record { state = refl; frames = refl; noted = refl } }
  left_elsewhere (Leaving node) runs other from sent = absurd (other node refl)
  left_elsewhere (Gone sessions) runs other from sent = record { runs = refl; follows = record { state = refl; frames = refl; noted = refl } }
  left_elsewhere (Ceased sessions) runs other from sent = record { runs = refl; follows = record { state = refl; frames = refl; noted = refl } }
  left_elsewhere (Ended sessions) runs other from sent = record { runs = runs; follows = record { state = refl; frames = refl; noted = refl } }

  module _ (before after : State) (begun : Start) (held sent : List (List ℕ)) (news : News) where
    pub joining_starts : (node next : JoiningNode) → before ≡ Joining node → after ≡ Joining next
        → FollowsAs (joining_state node) (start_at_joining (joining_state node) begun) (joining_state next) held sent news
        → StartsFrom p name before after begun held sent news
    joining_starts node next was is follows = rw (was, is) (record { runs = refl; follows = follows })

    pub core_starts : (node next : CoreNode) → before ≡ Core node → after ≡ Core next
        → FollowsAs (core_state node) (start_at_core (core_state node) begun) (core_state next) held sent news
        → StartsFrom p name before after begun held sent news
    core_starts node next was is follows = rw (was, is) (record { runs = refl; follows = follows })

  -- a node of a status keeps what that status keeps
  pub is_joining : (state : State) → (state_held p name state).status ≡ JoiningStatus → ((node : JoiningNode) → state ≢ Joining node) → ⊥
  is_joining (Joining node) at other = other node refl
  is_joining (Core node) at other = let wrong : CoreStatus ≡ JoiningStatus = at in cc
  is_joining (Leaving node) at other = let wrong : LeavingStatus ≡ JoiningStatus = at in cc
  is_joining (Gone sessions) at other = let wrong : GoneStatus ≡ JoiningStatus = at in cc
  is_joining (Ceased sessions) at other = let wrong : CeasedStatus ≡ JoiningStatus = at in cc
  is_joining (Ended sessions) at other = let wrong : GoneStatus ≡ JoiningStatus = at in cc

  pub is_core : (state : State) → (state_held p name state).status ≡ CoreStatus → ((node : CoreNode) → state ≢ Core node) → ⊥
  is_core (Joining node) at other = let wrong : JoiningStatus ≡ CoreStatus = at in cc
  is_core (Core node) at other = other node refl
  is_core (Leaving node) at other = let wrong : LeavingStatus ≡ CoreStatus = at in cc
  is_core (Gone sessions) at other = let wrong : GoneStatus ≡ CoreStatus = at in cc
  is_core (Ceased sessions) at other = let wrong : CeasedStatus ≡ CoreStatus = at in cc
  is_core (Ended sessions) at other = let wrong : GoneStatus ≡ CoreStatus = at in cc

  -- what Done and Left come to, at a joining and at a leaving node
  pub done_from : (before after : State) (node : JoiningNode) (from : List ℕ) (held sent : List (List ℕ)) (news : News)
      → before ≡ Joining node → (node_value p name after).ended ≡ false
      → FollowsAs (joining_state node) (Some (takes_done (joining_state node))) (state_held p name after) held sent news
      → FollowsFrom p name before after from Done held sent news
  unfolding frame_at_joining
  done_from before after node from held sent news was runs follows = rw was (record { runs = runs; follows = follows })

  pub left_from : (before after : State) (node : LeavingNode) (from : List ℕ) (held sent : List (List ℕ)) (news : News)
      → before ≡ Leaving node → (node_value p name after).ended ≡ false
      → FollowsAs (leaving_state node) (Some (takes_left (leaving_state node) from)) (state_held p name after) held sent news
      → FollowsFrom p name before after from Left held sent news
  unfolding frame_at_leaving
  left_from before after node from held sent news was runs follows = rw was (record { runs = runs; follows = follows })
