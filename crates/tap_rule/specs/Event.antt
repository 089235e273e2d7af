-- What may happen at a node, and what is then seen of it.
--
-- Rule: docs/PROTOCOL.md, "Steps of a node".
use Rattle.std.specs.Prelude.{ℕ, Bool, List, Option}
use Rattle.tap_name.specs.Name.{Name}
use Rattle.tap_name.specs.Prefix.{Level}
use Rattle.tap_pointer.specs.Pair.{Object}
use Rattle.tap_cast.specs.Casts.{CastNumber}
use Rattle.tap_wire.specs.declared.frame.Frame.{Frame}
use Rattle.tap_rule.specs.Node.{NodeState}

-- the number of a lookup
abbrev pub Ticket : Type 0
Ticket = ℕ

-- what a scenario has a node start
pub data Start : Type 0 where
  -- a joining node seeks its place, by this node
  Join : Name → Start
  -- its join is given up
  Abandon : Start
  -- a core node publishes an object, and withdraws it
  Publish : Object → Start
  Withdraw : Object → Start
  -- it looks an object up, under this ticket
  Find : Ticket → Object → Start
  -- it leaves
  Leave : Start
  -- it sends a word, as the cast of this number, to the nodes that share so many digits with it
  Cast : CastNumber → Level → List ℕ → Start

-- a node starts something, or takes a frame that was sent to it
pub data Event : Type 0 where
  Starts : Start → Event
  Takes : Frame → Event

-- what a step is noted for, beside the frames that it sends
pub data News : Type 0 where
  Nothing : News
  -- the node is core now
  Core : News
  -- the node is gone, or has ceased
  Gone : News
  -- the lookup of this ticket is answered, with a server or none
  Answered : Ticket → Option Name → News
  -- the cast of this number has reached the node, and is closed, or one of the two
  Cast : CastNumber → Bool → Bool → News

-- what a step comes to: the state afterwards, the frames that are sent, in order, the news, and whether the event was a frame
-- that is strange to the node
pub record Acted : Type 0 where
  pub state : NodeState
  pub sent : List Frame
  pub news : News
  pub strange : Bool
