-- Frames that send nobody on and make no node core: seekers and Tells stay as they were, and nobody departs.
use Rattle.std.specs.Prelude.{◌≡◌, ◌⊎◌, ℕ, List, None}
use Rattle.tap_name.specs.Settings.{SettingsValue}
use Rattle.tap_join.specs.Seek.{sought}
use Rattle.tap_join.specs.declared.sought.Sought.TheVariants.{Forward}
use Rattle.tap_wire.specs.declared.frame.Body.{Body}
use Rattle.tap_wire.specs.declared.frame.Body.TheVariants.{Seek}
use Rattle.tap_wire.specs.declared.kind.Kind.{Kind}
use Rattle.tap_wire.specs.declared.kind.Kind.TheVariants.{Forget, Hello, Release, Tell}
use Rattle.tap_wire.specs.Kind.{kind_of}
use Rattle.tap_rule.specs.Node.{NodeState, Status}
use Rattle.tap_rule.specs.Node.Status.{Ceased, Core, Joining}
use Rattle.tap_safety.specs.Bookkeeping.{TellsAreDeeper}
use Rattle.tap_safety.specs.Departing.{Departure}
use Rattle.tap_safety.specs.Notices.{Notices}
use Rattle.tap_safety.specs.Seeking.{AreOfSeekers, Seeking}
use Rattle.tap_safety.specs.System.{System}
use Rattle.tap_safety.specs.Tells.{TellsAreSound}
use Rattle.tap_moves.specs.Delivered.{after_delivery}
use Rattle.tap_moves.specs.InvariantLaws.{IsDelivery, IsTakenThere}
use Rattle.tap_moves.specs.FrameLaws.{IsPlainKind}

-- a Tell at a joining node or one that has ceased, a Hello, a Seek that goes on, a Release, a Forget, an answer, a Link, and those of
-- pointers and casts
abbrev IsCalmKind : Status → Kind → Type 0
IsCalmKind status Tell = (status ≡ Joining) ⊎ (status ≡ Ceased)
IsCalmKind status Hello = status ≡ Joining
IsCalmKind status Release = (status ≡ Joining) ⊎ (status ≡ Core)
IsCalmKind status Forget = (status ≡ Joining) ⊎ (status ≡ Core)
IsCalmKind status other = IsPlainKind other

abbrev pub IsCalmThere : NodeState → Body → Type 0
IsCalmThere node (Seek joiner) = (node.status ≡ Core) × ((next : List ℕ) × (sought node.ties.table joiner ≡ Forward next))
IsCalmThere node other = IsCalmKind node.status (kind_of other)

-- who isn't started is known to nobody but its one Seek, and Tells are sound
pub record AreSought (p : SettingsValue) (s : System) : Type 0 where
  pub seeking : Seeking s
  pub seekers : AreOfSeekers s
  pub tells : TellsAreSound p s

-- so it is after such a frame
abbrev pub FrameSeeks : Type 0
FrameSeeks = (p : SettingsValue) (s : System) (number : ℕ) (node : NodeState) (from : List ℕ) (body : Body)
    → IsDelivery p s number node from body → IsCalmThere node body → AreSought p (after_delivery p s number)

-- nobody departs
pub record IsPeaceful (s : System) : Type 0 where
  pub none : s.departing ≡ None
  pub departure : Departure s
  pub notices : Notices s

-- while nobody departs, nobody does after such a frame
abbrev pub FramePeaceful : Type 0
FramePeaceful = (p : SettingsValue) (s : System) (number : ℕ) (node : NodeState) (from : List ℕ) (body : Body)
    → IsDelivery p s number node from body → IsCalmThere node body → s.departing ≡ None → IsPeaceful (after_delivery p s number)

-- each Tell is one deeper than its session, and at a level above its prefix, after each frame that a rule takes
abbrev pub FrameDeeper : Type 0
FrameDeeper = (p : SettingsValue) (s : System) (number : ℕ) (node : NodeState) (from : List ℕ) (body : Body)
    → IsDelivery p s number node from body → IsTakenThere node body → TellsAreDeeper (after_delivery p s number)
