-- Steps that are about pointers, lookups and casts alone: of joins and departures they change nothing.
use Rattle.std.specs.Prelude.{◌≡◌, ◌≤◌}
use Rattle.tap_wire.specs.declared.frame.Frame.{Frame}
use Rattle.tap_wire.specs.declared.frame.Body.{Body}
use Rattle.tap_wire.specs.declared.kind.Kind.{Kind}
use Rattle.tap_wire.specs.declared.kind.Kind.TheVariants.{Lay, Find, Answer, Cast, CastAck}
use Rattle.tap_wire.specs.Kind.{kind_of}
use Rattle.tap_rule.specs.Node.{NodeState}
use Rattle.tap_rule.specs.Event.{Acted, Start}
use Rattle.tap_rule.specs.Event.Start.{Publish, Withdraw, Find as StartFind, Cast as StartCast}
use Rattle.tap_rule.specs.Sent.{IsAmong}

-- a frame about pointers, lookups or casts
abbrev pub IsQuietKind : Kind → Type 0
IsQuietKind Lay = Unit {0}
IsQuietKind Find = Unit {0}
IsQuietKind Answer = Unit {0}
IsQuietKind Cast = Unit {0}
IsQuietKind CastAck = Unit {0}
IsQuietKind other = ⊥

abbrev pub IsQuiet : Body → Type 0
IsQuiet body = IsQuietKind (kind_of body)

-- a start that is
abbrev pub IsQuietStart : Start → Type 0
IsQuietStart (Publish object) = Unit {0}
IsQuietStart (Withdraw object) = Unit {0}
IsQuietStart (StartFind ticket object) = Unit {0}
IsQuietStart (StartCast cast level word) = Unit {0}
IsQuietStart _ = ⊥

-- no link, holder, session of a join or cover changes, and only such frames are sent; the stamp may rise
pub record QuietStep (node : NodeState) (acted : Acted) : Type 0 where
  pub status : acted.state.status ≡ node.status
  pub ties : acted.state.ties ≡ node.ties
  pub stamp : node.stamp ≤ acted.state.stamp
  pub sessions : acted.state.sessions ≡ node.sessions
  pub covers : acted.state.covers ≡ node.covers
  pub greeted : acted.state.greeted ≡ node.greeted
  pub abandoned : acted.state.abandoned ≡ node.abandoned
  pub awaited : acted.state.awaited ≡ node.awaited
  pub sent : (frame : Frame) → IsAmong frame acted.sent → IsQuiet frame.body
