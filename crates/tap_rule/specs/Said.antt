-- What the words mean by which rules and laws name what is sent and noted.
--
-- Rule: docs/PROTOCOL.md, "Steps of a node".
use Rattle.std.specs.Prelude.{◌≡◌, ◌↔◌, ◌⊎◌, ℕ, Bool, true, false, List, map, All}
use Rattle.tap_wire.specs.declared.frame.Frame.{Frame}
use Rattle.tap_wire.specs.declared.frame.Body.{Body}
use Rattle.tap_rule.specs.Event.{News}
use Rattle.tap_rule.specs.Event.News.{Nothing, Cast}
use Rattle.tap_rule.specs.Reaction.{Message}

-- the frame is from this node to that one, and says this
pub record IsFrameOf (from to : List ℕ) (body : Body) (frame : Frame) : Type 0 where
  pub sender : frame.from ≡ from
  pub receiver : frame.to ≡ to
  pub said : frame.body ≡ body

-- the messages go to these names, one to each, in their order, and all say this
pub record IsOneEach (body : Body) (names : List (List ℕ)) (messages : List Message) : Type 0 where
  pub receivers : map (λ message. message.to) messages ≡ names
  pub said : All (λ message. message.body ≡ body) messages

-- the news of a cast: none if it neither has reached the node nor is closed, and else which of the two it is
pub record IsCastNews (cast : ℕ) (reached closed : Bool) (news : News) : Type 0 where
  pub nothing : (news ≡ Nothing) ↔ ((reached ≡ false) × (closed ≡ false))
  pub noted : (reached ≡ true) ⊎ (closed ≡ true) → news ≡ Cast cast reached closed
