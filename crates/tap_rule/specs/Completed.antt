-- How a step ends: its pointers, its stamp, its news and all that it sends, in order; and what it leaves alone.
use Rattle.std.specs.Prelude.{◌≡◌, ◌+◌, false, List, [], length, map}
use Rattle.tap_table.specs.declared.tie.Tie.{Tie}
use Rattle.tap_pointer.specs.declared.lay.Lay.{Lay}
use Rattle.tap_pointer.specs.Pointers.{PointersValue}
use Rattle.tap_pointer.specs.Reconcile.{reconcile_lays, reconciled}
use Rattle.tap_rule.specs.Node.{NodeState, Status, name_of}
use Rattle.tap_rule.specs.Node.Status.{Joining, Core, Leaving, Gone, Ceased}
use Rattle.tap_rule.specs.Event.{Acted, News}
use Rattle.tap_rule.specs.Event.News.{Nothing}
use Rattle.tap_rule.specs.Reaction.{Message}
use Rattle.tap_rule.specs.Sending.{message_frame}
use Rattle.tap_rule.specs.Sent.{AreSentInOrder}

-- its casts stay: their levels, and their sessions with the casts of these
pub record CastsAlike (before after : NodeState) : Type 0 where
  pub casts : after.casts ≡ before.casts
  pub sessions : after.cast_sessions ≡ before.cast_sessions
  pub numbers : after.cast_numbers ≡ before.cast_numbers

-- what a step of links or joins leaves alone: whom the node awaits, and its casts
pub record RestAlike (before after : NodeState) : Type 0 where
  pub awaited : after.awaited ≡ before.awaited
  pub casts : CastsAlike before after

-- the Lays that lay these pointers as wanted, over the table that the step leaves, with the numbers after those of these words
abbrev pub lays_after : NodeState → PointersValue → List Tie → Acted → List Lay
lays_after node pointers words acted = reconcile_lays acted.state.ties.table (node.stamp + length words) pointers

-- The step of a node that hasn't ended by then: these pointers are laid as wanted; the stamp has given the numbers of these words
-- and then of the Lays that this takes; these, with these messages, are all that is sent, in order; and this is the news.
pub record IsCompleted (node : NodeState) (laid : PointersValue) (words : List Tie) (messages : List Message) (noted : News)
    (acted : Acted) : Type 0 where
  pub pointers : acted.state.pointers ≡ reconciled acted.state.ties.table laid
  pub stamp : acted.state.stamp ≡ node.stamp + length words + length (lays_after node laid words acted)
  pub sent : AreSentInOrder (name_of node) words messages (lays_after node laid words acted) acted.sent
  pub news : acted.news ≡ noted
  pub taken : acted.strange ≡ false

-- the step of a node that had ended before it: its pointers and its stamp stay, and these messages are all that is sent
pub record SendsAlone (node : NodeState) (messages : List Message) (acted : Acted) : Type 0 where
  pub pointers : acted.state.pointers ≡ node.pointers
  pub stamp : acted.state.stamp ≡ node.stamp
  pub sent : acted.sent ≡ map (message_frame (name_of node)) messages
  pub news : acted.news ≡ Nothing
  pub taken : acted.strange ≡ false

-- a node of this status sends these messages, and its pointers stay, but that they are laid as wanted if it hasn't ended
abbrev pub SendsAt : Status → NodeState → List Message → Acted → Type 0
SendsAt Joining node messages acted = IsCompleted node node.pointers [] messages Nothing acted
SendsAt Core node messages acted = IsCompleted node node.pointers [] messages Nothing acted
SendsAt Leaving node messages acted = IsCompleted node node.pointers [] messages Nothing acted
SendsAt Gone node messages acted = SendsAlone node messages acted
SendsAt Ceased node messages acted = SendsAlone node messages acted
