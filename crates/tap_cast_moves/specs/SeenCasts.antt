-- The casts of a system, seen as joins: what joins keep of their sessions is then said of casts in the same words.
--
-- A cast is seen as the join of a joiner of its own; its start as the Seek of this joiner, at its surrogate; a Cast as a Tell, and a
-- CastAck as an Ack. Every other frame is seen as one of no session.
use Rattle.std.specs.Prelude.{ℕ, List, [], ◌∷◌, map}
use Rattle.std.specs.Option.{option_map}
use Rattle.tap_session.specs.declared.parent.Parent.{Parent}
use Rattle.tap_session.specs.declared.parent.Parent.TheVariants.{Node, Root}
use Rattle.tap_session.specs.Session.{Session, SessionsValue}
use Rattle.tap_wire.specs.declared.frame.Body.{Body}
use Rattle.tap_wire.specs.declared.frame.Body.TheVariants.{Ack, Cast, CastAck, Release, Seek, Tell}
use Rattle.tap_wire.specs.declared.frame.Frame.{Frame}
use Rattle.tap_rule.specs.Casts.{cast_of}
use Rattle.tap_rule.specs.Event.{Start}
use Rattle.tap_rule.specs.Event.Start.{Cast as StartCast}
use Rattle.tap_rule.specs.Node.{NodeState}
use Rattle.tap_safety.specs.System.{System}
use Rattle.tap_cast_moves.specs.Remembered.{CastMemory}

-- the joiner as which a cast is seen
abbrev pub cast_name : ℕ → List ℕ
cast_name cast = cast ∷ []

-- ---- frames

abbrev pub seen_body : Body → Body
seen_body (Cast cast level session depth word) = Tell (cast_name cast) 0 level session depth []
seen_body (CastAck session) = Ack session
seen_body other = Release

abbrev pub seen_frame : Frame → Frame
seen_frame f = record { from = f.from; to = f.to; body = seen_body f.body }

-- with their numbers
abbrev pub seen_frames : List (ℕ × Frame) → List (ℕ × Frame)
seen_frames frames = map (λ f. (f.0, seen_frame f.1)) frames

-- a start, as the frame that its node takes
abbrev pub seen_start : Start → Body
seen_start (StartCast cast level word) = Seek (cast_name cast)
seen_start other = Release

-- ---- nodes

-- the parent of a session of this cast
abbrev pub seen_parent : ℕ → Parent → Parent
seen_parent cast (Root caster) = Root (cast_name cast)
seen_parent cast (Node name session) = Node name session

abbrev pub seen_session : NodeState → Session → Session
seen_session node s = record s { parent = seen_parent (cast_of node s.id) s.parent }

abbrev pub seen_sessions : NodeState → SessionsValue
seen_sessions node =
    record { sessions = map (seen_session node) node.cast_sessions.sessions; opened = node.cast_sessions.opened }

-- its sessions of casts, as those of joins
abbrev pub seen_node : NodeState → NodeState
seen_node node = record node { sessions = seen_sessions node }

-- ---- systems

abbrev pub seen : System → CastMemory → System
seen s r = record s {
  node = λ x. option_map seen_node (s.node x);
  frames = seen_frames s.frames;
  session = r.session;
}
