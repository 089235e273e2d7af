-- The rule of each kind of frame, by the status of the node; none if there is no rule.
--
-- A frame: `rule_of_frame`, then the table of the node's status, as `frame_at_core`, then what stands there for its kind.
--
-- Rule: docs/PROTOCOL.md, "Steps of a node".
use Rattle.std.specs.Prelude.{Option, None, Some}
use Rattle.tap_name.specs.Name.{Name}
use Rattle.tap_wire.specs.declared.frame.Body.{Body}
use Rattle.tap_wire.specs.declared.frame.Body.TheVariants.{Seek, Tell, Hello, Heard, Ack, Done, Release, Link, Lay, Find, Answer, Leave, Left, Gone, Forget, Cast, CastAck}
use Rattle.tap_pointer.specs.Pointers.{pair_of}
use Rattle.tap_rule.specs.Node.{NodeState, Status}
use Rattle.tap_rule.specs.Node.Status.{Joining, Core, Leaving, Gone as GoneStatus, Ceased}
use Rattle.tap_rule.specs.Reaction.{Reaction}
use Rattle.tap_rule.specs.Answers.{takes_heard_or_ack}
use Rattle.tap_rule.specs.Links.{takes_forget, takes_link, takes_link_joining, takes_release}
use Rattle.tap_rule.specs.Covering.{takes_seek, takes_tell}
use Rattle.tap_rule.specs.Joining.{takes_hello, takes_tell_joining}
use Rattle.tap_rule.specs.Ceasing.{takes_done, takes_link_ceased, takes_tell_ceased}
use Rattle.tap_rule.specs.Pointers.{takes_answer, takes_find, takes_lay}
use Rattle.tap_rule.specs.Leaving.{takes_gone, takes_leave, takes_left}
use Rattle.tap_rule.specs.Casts.{takes_cast, takes_cast_ack, takes_cast_outside}

-- a frame at a joining node
unfoldable pub frame_at_joining : NodeState → Name → Body → Option Reaction
frame_at_joining node from (Tell joiner prefix level session depth watch) =
    Some (takes_tell_joining node from (record { joiner = joiner; prefix = prefix; level = level; session = session; depth = depth }))
frame_at_joining node from (Hello session core links) = Some (takes_hello node from session core links)
frame_at_joining node from (Heard session) = Some (takes_heard_or_ack node session)
frame_at_joining node from (Ack session) = Some (takes_heard_or_ack node session)
frame_at_joining node from Done = Some (takes_done node)
frame_at_joining node from Release = Some (takes_release node from)
frame_at_joining node from (Link version on) = Some (takes_link_joining node from version on)
frame_at_joining node from Forget = Some (takes_forget node from)
frame_at_joining node from (Cast cast level session depth word) = Some (takes_cast_outside node from session)
frame_at_joining node from _ = None

-- a frame at a core node
unfoldable pub frame_at_core : NodeState → Name → Body → Option Reaction
frame_at_core node from (Seek joiner) = Some (takes_seek node joiner)
frame_at_core node from (Tell joiner prefix level session depth watch) =
    Some (takes_tell node from (record { joiner = joiner; prefix = prefix; level = level; session = session; depth = depth }) watch)
frame_at_core node from (Heard session) = Some (takes_heard_or_ack node session)
frame_at_core node from (Ack session) = Some (takes_heard_or_ack node session)
frame_at_core node from Release = Some (takes_release node from)
frame_at_core node from (Link version on) = Some (takes_link node from version on)
frame_at_core node from (Lay object server level version on) =
    Some (takes_lay node from (pair_of object server) level version on)
frame_at_core node from (Find ticket object asker level) = Some (takes_find node ticket object asker level)
frame_at_core node from (Answer ticket server) = Some (takes_answer node ticket server)
frame_at_core node from (Leave replacement) = Some (takes_leave node from replacement)
frame_at_core node from Gone = Some (takes_gone node from)
frame_at_core node from Forget = Some (takes_forget node from)
frame_at_core node from (Cast cast level session depth word) = Some (takes_cast node from cast level session depth word)
frame_at_core node from (CastAck session) = Some (takes_cast_ack node session)
frame_at_core node from _ = None

-- a frame at a leaving node
unfoldable pub frame_at_leaving : NodeState → Name → Body → Option Reaction
frame_at_leaving node from (Link version on) = Some (takes_link node from version on)
frame_at_leaving node from (Lay object server level version on) =
    Some (takes_lay node from (pair_of object server) level version on)
frame_at_leaving node from (Find ticket object asker level) = Some (takes_find node ticket object asker level)
frame_at_leaving node from (Answer ticket server) = Some (takes_answer node ticket server)
frame_at_leaving node from Left = Some (takes_left node from)
frame_at_leaving node from _ = None

-- a frame at a node that has ceased
unfoldable pub frame_at_ceased : NodeState → Name → Body → Option Reaction
frame_at_ceased node from (Tell joiner prefix level session depth watch) = Some (takes_tell_ceased node from session)
frame_at_ceased node from (Heard session) = Some (takes_heard_or_ack node session)
frame_at_ceased node from (Ack session) = Some (takes_heard_or_ack node session)
frame_at_ceased node from (Link version on) = Some (takes_link_ceased node from on)
frame_at_ceased node from (Cast cast level session depth word) = Some (takes_cast_outside node from session)
frame_at_ceased node from _ = None

-- a frame at a node of this status
abbrev pub rule_of_frame : Status → NodeState → Name → Body → Option Reaction
rule_of_frame Joining node from body = frame_at_joining node from body
rule_of_frame Core node from body = frame_at_core node from body
rule_of_frame Leaving node from body = frame_at_leaving node from body
rule_of_frame GoneStatus node from body = None
rule_of_frame Ceased node from body = frame_at_ceased node from body
