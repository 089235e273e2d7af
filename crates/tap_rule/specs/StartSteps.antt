-- What the starts of joins and departures change.
use Rattle.std.specs.Prelude.{◌≡◌, ◌≢◌, true, List, [], ◌∷◌, length, map, ℕ}
use Rattle.tap_table.specs.Ties.{holders_on}
use Rattle.tap_depart.specs.Leaving.{started_leaving}
use Rattle.tap_pointer.specs.Pointers.{all_withdrawn}
use Rattle.tap_wire.specs.declared.frame.Body.TheVariants.{Seek, Leave, Gone}
use Rattle.tap_rule.specs.Node.{NodeState, name_of}
use Rattle.tap_rule.specs.Node.Status.{Leaving, Gone as GoneStatus}
use Rattle.tap_rule.specs.Event.{Acted}
use Rattle.tap_rule.specs.Event.News.{Nothing}
use Rattle.tap_rule.specs.Reaction.{message}
use Rattle.tap_rule.specs.EndSteps.{EndStep}
use Rattle.tap_rule.specs.Sent.{AreSent}
use Rattle.tap_rule.specs.Completed.{CastsAlike, IsCompleted, RestAlike}
use Rattle.tap_rule.specs.LinkSteps.{JoinsAlike}

-- the start of a join: the node stays, and a Seek goes to the node that it knows
pub record SeekStartStep (node : NodeState) (via : List ℕ) (acted : Acted) : Type 0 where
  pub joins : JoinsAlike node acted.state
  pub ties : acted.state.ties ≡ node.ties
  pub sessions : acted.state.sessions ≡ node.sessions
  pub sent : AreSent (name_of node) [] (message via (Seek (name_of node)) ∷ []) acted.sent
  pub rest : RestAlike node acted.state
  pub completed : IsCompleted node node.pointers [] (message via (Seek (name_of node)) ∷ []) Nothing acted

-- giving a join up: nothing else changes, and nothing is sent
pub record GiveUpStep (node : NodeState) (acted : Acted) : Type 0 where
  pub abandoned : acted.state.abandoned ≡ true
  pub status : acted.state.status ≡ node.status
  pub ties : acted.state.ties ≡ node.ties
  pub sessions : acted.state.sessions ≡ node.sessions
  pub covers : acted.state.covers ≡ node.covers
  pub greeted : acted.state.greeted ≡ node.greeted
  pub sent : AreSent (name_of node) [] [] acted.sent
  pub rest : RestAlike node acted.state
  pub completed : IsCompleted node node.pointers [] [] Nothing acted

-- a departure: the node awaits its holders, each of which is sent its notice; without holders it ends at once
pub record LeaveStartStep (node : NodeState) (acted : Acted) : Type 0 where
  pub waits : length (holders_on node.ties) ≢ 0
      → (acted.state.status ≡ Leaving) × (acted.state.ties ≡ node.ties) × (acted.state.sessions ≡ node.sessions)
      × (acted.state.awaited ≡ holders_on node.ties)
      × AreSent (name_of node) []
      (map (λ notice. message notice.to (Leave notice.replacement)) (started_leaving node.ties).notices) acted.sent
      × (acted.state.covers ≡ node.covers) × (acted.state.greeted ≡ node.greeted) × (acted.state.abandoned ≡ node.abandoned)
      × CastsAlike node acted.state × IsCompleted node (all_withdrawn node.pointers) []
      (map (λ notice. message notice.to (Leave notice.replacement)) (started_leaving node.ties).notices) Nothing acted
  pub finishes : length (holders_on node.ties) ≡ 0 → EndStep node GoneStatus Gone acted
