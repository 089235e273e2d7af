-- How many Acks a node sends.
use Rattle.std.specs.Prelude.{◌≡◌, ℕ, nat_eq, ◌+◌, ◌≤◌, Bool, true, false, ◌&&◌, List, None, Some, count_by}
use Rattle.std.specs.Cmp.Lexicographic.{pointwise}
use Rattle.tap_name.specs.Settings.{SettingsValue}
use Rattle.tap_session.specs.Session.{Session}
use Rattle.tap_session.specs.declared.parent.Parent.{Parent}
use Rattle.tap_session.specs.declared.parent.Parent.TheVariants.{Node, Root}
use Rattle.tap_wire.specs.declared.frame.Body.{Body}
use Rattle.tap_wire.specs.declared.frame.Frame.{Frame}
use Rattle.tap_wire.specs.declared.kind.Kind.{Kind}
use Rattle.tap_wire.specs.declared.kind.Kind.TheVariants.{Ack, Tell}
use Rattle.tap_wire.specs.Kind.{kind_of}
use Rattle.tap_rule.specs.Node.{NodeState}
use Rattle.tap_safety.specs.Move.{Move, may_move}
use Rattle.tap_safety.specs.Moved.{moved}
use Rattle.tap_safety.specs.AtRest.{AreMembers, system_at_rest}
use Rattle.tap_safety.specs.System.{System}
use Rattle.tap_safety_moves.specs.SoundMoves.{after_moves, may_run}
use Rattle.tap_safety_moves.specs.Sound.{Sound}
use Rattle.tap_bounds.specs.FewSent.{traffic_of}
use Rattle.tap_bounds.specs.Traffic.{Traffic, no_traffic, traffic_after}

abbrev is_ack_kind : Kind → Bool
is_ack_kind Ack = true
is_ack_kind other = false

abbrev pub is_ack : Body → Bool
is_ack body = is_ack_kind (kind_of body)

-- whether the parent of a session is another node's
abbrev pub is_below_parent : Parent → Bool
is_below_parent (Root joiner) = false
is_below_parent (Node name session) = true

abbrev pub is_below_node : Session → Bool
is_below_node s = is_below_parent s.parent

abbrev is_tell_kind : Kind → Bool
is_tell_kind Tell = true
is_tell_kind other = false

abbrev pub is_tell_body : Body → Bool
is_tell_body body = is_tell_kind (kind_of body)

-- whether a frame is an Ack from this name, and a Tell to it
abbrev pub is_ack_from : List ℕ → Frame → Bool
is_ack_from x f = is_ack f.body && pointwise nat_eq f.from x

abbrev pub is_tell_to : List ℕ → Frame → Bool
is_tell_to x f = is_tell_body f.body && pointwise nat_eq f.to x

-- A node has sent at most as many Acks as it has taken Tells, with its open sessions whose parent is another node's counted as Acks; and a
-- name that is no node has sent none.
pub record AcksAreFew (s : System) (r : Traffic) : Type 0 where
  pub each : (x : List ℕ) (node : NodeState) → s.node x ≡ Some node
      → count_by (is_ack_from x) r.sent + count_by is_below_node node.sessions.sessions ≤ count_by (is_tell_to x) r.taken
  pub fresh : (x : List ℕ) → s.node x ≡ None → count_by (is_ack_from x) r.sent ≡ 0

-- the members with which an overlay begins have sent none
abbrev pub AcksAtRest : Type 0
AcksAtRest = (p : SettingsValue) (members : List (List ℕ)) → AreMembers p members → AcksAreFew (system_at_rest p members) no_traffic

-- each possible move keeps it, if the whole invariant holds before it
abbrev pub MoveKeepsAcks : Type 0
MoveKeepsAcks = (p : SettingsValue) (s : System) (r : Traffic) (move : Move) → may_move p s move → Sound p s → AcksAreFew s r
    → AcksAreFew (moved p s move) (traffic_after p s r move)

-- So it holds at each moment of each run from members at rest.
abbrev pub RunAcksFew : Type 0
RunAcksFew = (p : SettingsValue) (members : List (List ℕ)) (moves : List Move) → AreMembers p members
    → may_run p (system_at_rest p members) moves
    → AcksAreFew (after_moves p (system_at_rest p members) moves) (traffic_of p (system_at_rest p members) no_traffic moves)
