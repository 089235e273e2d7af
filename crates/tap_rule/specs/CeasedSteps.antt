-- What Tell, Link and Cast come to at a node that has ceased, and Cast at a joining node: they are answered, and nothing changes.
use Rattle.std.specs.Prelude.{◌≡◌, false, List, [], ◌∷◌, map}
use Rattle.tap_rule.specs.Node.{NodeState, name_of}
use Rattle.tap_rule.specs.Event.{Acted}
use Rattle.tap_rule.specs.Event.News.{Nothing}
use Rattle.tap_rule.specs.Reaction.{Message}
use Rattle.tap_rule.specs.Sending.{message_frame}
use Rattle.tap_rule.specs.Completed.{IsCompleted}
use Rattle.tap_rule.specs.LinkSteps.{AllAlike}

-- at a node that has ceased: it stays, and these messages are all that it sends
pub record CeasedStep (node : NodeState) (messages : List Message) (acted : Acted) : Type 0 where
  pub state : acted.state ≡ node
  pub sent : acted.sent ≡ map (message_frame (name_of node)) messages
  pub news : acted.news ≡ Nothing
  pub taken : acted.strange ≡ false

-- at a joining node: all stays, and this message is all that it sends beside Lays
pub record AnsweredCastStep (node : NodeState) (answer : Message) (acted : Acted) : Type 0 where
  pub alike : AllAlike node acted.state
  pub completed : IsCompleted node node.pointers [] (answer ∷ []) Nothing acted
