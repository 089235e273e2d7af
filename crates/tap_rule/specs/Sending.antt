-- The frames of a step, in the order in which they are sent.
--
-- What is sent: `frames_of`, then `by_receiver`, `link_frame`, `message_frame` and `lay_frame`.
--
-- Rule: docs/PROTOCOL.md, "Steps of a node".
use Rattle.std.specs.Prelude.{if◌then◌else◌, List, [], ◌∷◌, ◌++◌, map}
use Rattle.std.specs.Ordering.{is_gt}
use Rattle.tap_name.specs.Name.{Name}
use Rattle.tap_name.specs.Order.{name_cmp}
use Rattle.tap_table.specs.declared.tie.Tie.{Tie}
use Rattle.tap_pointer.specs.declared.lay.Lay as lay
use Rattle.tap_wire.specs.declared.frame.Frame.{Frame}
use Rattle.tap_wire.specs.declared.frame.Body.TheVariants.{Link, Lay}
use Rattle.tap_rule.specs.Reaction.{Message, Reaction}

-- one more word, before the first whose receiver isn't below its own
unfoldable pub inserted_by_receiver : Tie → List Tie → List Tie
inserted_by_receiver word [] = word ∷ []
inserted_by_receiver word (first ∷ others) =
    if is_gt (name_cmp word.to first.to) then first ∷ inserted_by_receiver word others else word ∷ first ∷ others

-- these words, ascending by receiver
unfoldable pub by_receiver : List Tie → List Tie
by_receiver [] = []
by_receiver (word ∷ words) = inserted_by_receiver word (by_receiver words)

-- the frame of a word, of a message and of a Lay
abbrev pub link_frame : Name → Tie → Frame
link_frame from word = record { from = from; to = word.to; body = Link word.version word.on }

abbrev pub message_frame : Name → Message → Frame
message_frame from message = record { from = from; to = message.to; body = message.body }

abbrev pub lay_frame : Name → lay.Lay → Frame
lay_frame from l = record { from = from; to = l.to; body = Lay l.object l.server l.level l.version l.on }

-- first all Links, ascending by receiver, then the frames that the rule names, and then the Lays
abbrev pub frames_of : Name → Reaction → List Frame
frames_of from reaction =
    map (link_frame from) (by_receiver reaction.words)
    ++ (map (message_frame from) reaction.messages ++ map (lay_frame from) reaction.lays)
