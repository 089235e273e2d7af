-- The laws of the invariant: if its parts hold, they hold once a frame under way is delivered, with nothing asked for between.
use Rattle.std.specs.Prelude.{◌≡◌, ◌⊎◌, ℕ, ◌≤◌, false, List, None, Some}
use Rattle.tap_name.specs.Prefix.{lcp}
use Rattle.tap_name.specs.Settings.{SettingsValue}
use Rattle.tap_wire.specs.declared.frame.Body.{Body}
use Rattle.tap_wire.specs.declared.frame.Body.TheVariants.{Link, Seek, Tell}
use Rattle.tap_wire.specs.declared.frame.Frame.{Frame}
use Rattle.tap_wire.specs.declared.kind.Kind.{Kind}
use Rattle.tap_wire.specs.declared.kind.Kind.TheVariants as kind
use Rattle.tap_wire.specs.Kind.{kind_of}
use Rattle.tap_join.specs.Seek.{sought}
use Rattle.tap_join.specs.declared.sought.Sought.TheVariants.{Forward, Surrogate}
use Rattle.tap_rule.specs.Event.{Start}
use Rattle.tap_rule.specs.Event.Start.{Join, Leave}
use Rattle.tap_rule.specs.RuleLaws.{frame_to}
use Rattle.tap_rule.specs.Node.{NodeState, Status, level_of, name_of}
use Rattle.tap_rule.specs.Node.Status.{Ceased as CeasedStatus, Core, Joining}
use Rattle.tap_rule.specs.QuietSteps.{IsQuietKind}
use Rattle.tap_rule.specs.Strange.{is_strange}
use Rattle.tap_safety.specs.Bookkeeping.{EndedHaveNoLinks, has_table}
use Rattle.tap_safety.specs.Filled.{AreFilled}
use Rattle.tap_safety.specs.Invariant.{Basis}
use Rattle.tap_safety.specs.Move.{Move, may_move, may_start}
use Rattle.tap_safety.specs.Move.Move.{Begins, Delivers}
use Rattle.tap_safety.specs.Moved.{moved}
use Rattle.tap_safety.specs.Remembered.{TieWord}
use Rattle.tap_safety.specs.Sessions.{AreExact}
use Rattle.tap_safety.specs.Soft.{NamesSoft}
use Rattle.tap_safety.specs.Spelled.{AreSpelled}
use Rattle.tap_safety.specs.Exchanges.{AreNumbered}
use Rattle.tap_safety.specs.System.{System, AmongFrames, IsCoreNode}
use Rattle.tap_safety.specs.Ties.{TiesAreTold, Versions, hears_words}
use Rattle.tap_safety.specs.Regions.{IsGiven}
use Rattle.tap_moves.specs.Delivered.{after_delivery, after_start}
use Rattle.tap_moves.specs.KnownNames.{AreNodes, IsNamedStart}
use Rattle.tap_moves.specs.TiesLaws.{WordsStand}
use Rattle.tap_moves.specs.SessionsLaws.{IsOutsideKind}
use Rattle.tap_moves.specs.FrameLaws.{IsPlainKind}

-- The basis of the invariant holds, each node is one, and a frame of this number, sender and body is under way to this node, to which it
-- isn't strange.
pub record IsDelivery (p : SettingsValue) (s : System) (number : ℕ) (node : NodeState) (from : List ℕ) (body : Body) : Type 0 where
  pub invariant : Basis p s
  pub nodes : AreNodes p s
  pub among : AmongFrames number (frame_to node from body) s.frames
  pub at : s.node (name_of node) ≡ Some node
  pub known : is_strange node (frame_to node from body) ≡ false

-- a frame of a join where a rule takes it, but the Done of a join that was given up; and those of pointers and casts
abbrev IsFilledKind : NodeState → Kind → Type 0
IsFilledKind node kind.Tell = (node.status ≡ Core) ⊎ ((node.status ≡ Joining) ⊎ (node.status ≡ CeasedStatus))
IsFilledKind node kind.Hello = node.status ≡ Joining
IsFilledKind node kind.Seek = node.status ≡ Core
IsFilledKind node kind.Done = node.abandoned ≡ false
IsFilledKind node kind.Release = (node.status ≡ Joining) ⊎ (node.status ≡ Core)
IsFilledKind node kind.Forget = (node.status ≡ Joining) ⊎ (node.status ≡ Core)
IsFilledKind node other = IsPlainKind other

abbrev pub IsFilledThere : NodeState → Body → Type 0
IsFilledThere node body = IsFilledKind node (kind_of body)

-- what leads to tables without holes holds after it
abbrev pub FrameFills : Type 0
FrameFills = (p : SettingsValue) (s : System) (number : ℕ) (node : NodeState) (from : List ℕ) (body : Body)
    → IsDelivery p s number node from body → AreFilled p s → IsFilledThere node body → AreFilled p (after_delivery p s number)

-- a node that has ended has no link after it
abbrev pub FrameEnded : Type 0
FrameEnded = (p : SettingsValue) (s : System) (number : ℕ) (node : NodeState) (from : List ℕ) (body : Body)
    → IsDelivery p s number node from body → IsFilledThere node body → EndedHaveNoLinks (after_delivery p s number)

-- a Link, at a node that hears words
abbrev pub LinkTies : Type 0
LinkTies = (p : SettingsValue) (s : System) (number : ℕ) (node : NodeState) (from : List ℕ) (word : TieWord)
    → IsDelivery p s number node from (Link word.version word.on) → hears_words (Some node.status)
    → TiesAreTold (after_delivery p s number) × Versions (after_delivery p s number)

-- another frame that changes no link, or whose taker says so of each link that it changes: at a node that has a table, an answer, a Hello,
-- a Seek that goes on, a Tell at a joining node or of a joiner that is covered so already, and those of pointers and casts
abbrev IsSaidKind : Status → Kind → Type 0
IsSaidKind status kind.Hello = status ≡ Joining
IsSaidKind status kind.Heard = (status ≡ Joining) ⊎ (status ≡ Core)
IsSaidKind status kind.Ack = (status ≡ Joining) ⊎ (status ≡ Core)
IsSaidKind status other = IsQuietKind other × has_table status

abbrev pub IsSaidThere : NodeState → Body → Type 0
IsSaidThere node (Tell joiner prefix level session depth watch) =
    (node.status ≡ Joining) ⊎ ((node.status ≡ Core) × ((kept : ℕ) × (level_of node joiner ≡ Some kept) × (kept ≤ level)))
IsSaidThere node (Seek joiner) = (node.status ≡ Core) × ((next : List ℕ) × (sought node.ties.table joiner ≡ Forward next))
IsSaidThere node other = IsSaidKind node.status (kind_of other)

-- the words of links stand after it
abbrev pub FrameSays : Type 0
FrameSays = (p : SettingsValue) (s : System) (number : ℕ) (node : NodeState) (from : List ℕ) (body : Body)
    → IsDelivery p s number node from body → IsSaidThere node body → WordsStand (after_delivery p s number)

-- another frame whose taker says of nobody that it is core, but by a Release: a Tell at a joining node or one that has ceased, a Hello, a
-- Release, a Forget, an answer, a Link, a Seek that goes on, and those of pointers and casts
abbrev IsSoftKind : Status → Kind → Type 0
IsSoftKind status kind.Tell = (status ≡ Joining) ⊎ (status ≡ CeasedStatus)
IsSoftKind status kind.Hello = status ≡ Joining
IsSoftKind status kind.Release = (status ≡ Joining) ⊎ (status ≡ Core)
IsSoftKind status kind.Forget = (status ≡ Joining) ⊎ (status ≡ Core)
IsSoftKind status other = IsPlainKind other

abbrev pub IsSoftThere : NodeState → Body → Type 0
IsSoftThere node (Seek joiner) = (next : List ℕ) × (sought node.ties.table joiner ≡ Forward next)
IsSoftThere node other = IsSoftKind node.status (kind_of other)

-- settled links are to core nodes after it, and pins to soft ones
abbrev pub FrameSoft : Type 0
FrameSoft = (p : SettingsValue) (s : System) (number : ℕ) (node : NodeState) (from : List ℕ) (body : Body)
    → IsDelivery p s number node from body → IsSoftThere node body → NamesSoft (after_delivery p s number)

-- a Seek at the joiner's surrogate: the new joiner is given the slot of each core node with which it shares at most its prefix
abbrev pub SeekGives : Type 0
SeekGives = (p : SettingsValue) (s : System) (number : ℕ) (node : NodeState) (from joiner : List ℕ) (prefix : ℕ)
    → IsDelivery p s number node from (Seek joiner) → AreFilled p s → node.status ≡ Core → sought node.ties.table joiner ≡ Surrogate prefix
    → (e : List ℕ) → IsCoreNode s e → lcp joiner e ≤ lcp (name_of node) joiner → IsGiven (after_delivery p s number) joiner e

-- a frame of a join where a rule takes it, or one of no session
abbrev IsTakenKind : Status → Kind → Type 0
IsTakenKind status kind.Tell = (status ≡ Core) ⊎ ((status ≡ Joining) ⊎ (status ≡ CeasedStatus))
IsTakenKind status kind.Hello = status ≡ Joining
IsTakenKind status kind.Heard = Unit {0}
IsTakenKind status kind.Ack = Unit {0}
IsTakenKind status kind.Seek = status ≡ Core
IsTakenKind status other = IsOutsideKind other

abbrev pub IsTakenThere : NodeState → Body → Type 0
IsTakenThere node body = IsTakenKind node.status (kind_of body)

-- the sessions are exact after it
abbrev pub FrameExact : Type 0
FrameExact = (p : SettingsValue) (s : System) (number : ℕ) (node : NodeState) (from : List ℕ) (body : Body)
    → IsDelivery p s number node from body → IsTakenThere node body → AreExact (after_delivery p s number)

-- a frame of whatever kind that a node takes, whatever its status: each node stays one, and each frame has a spelling
abbrev pub PartsKept : Type 0
PartsKept = (p : SettingsValue) (s : System) (number : ℕ) (frame : Frame) (node : NodeState) → AreNodes p s → AreSpelled p s
    → AreNumbered s → AmongFrames number frame s.frames → s.node frame.to ≡ Some node
    → AreNodes p (after_delivery p s number) × AreSpelled p (after_delivery p s number)

-- and so they are once a node has started what it may start, a departure too
abbrev pub StartKeepsParts : Type 0
StartKeepsParts = (p : SettingsValue) (s : System) (x : List ℕ) (start : Start) → AreNodes p s → AreSpelled p s
    → may_start p s x start → IsNamedStart p start
    → AreNodes p (after_start p s x start) × AreSpelled p (after_start p s x start)

-- what a move brings: a frame brings nothing that isn't under way already
abbrev pub IsNamedMove : SettingsValue → Move → Type 0
IsNamedMove p (Begins x start) = IsNamedStart p start
IsNamedMove p (Delivers number) = Unit {0}

-- so they are after every possible move, if the frames are numbered
abbrev pub MoveKeepsParts : Type 0
MoveKeepsParts = (p : SettingsValue) (s : System) (move : Move) → AreNodes p s → AreSpelled p s → AreNumbered s
    → may_move p s move → IsNamedMove p move → AreNodes p (moved p s move) × AreSpelled p (moved p s move)

-- whoever starts to join wasn't started before; a departure isn't meant
abbrev pub IsNew : System → List ℕ → Start → Type 0
IsNew s x (Join via) = s.surrogate x ≡ None
IsNew s x Leave = ⊥
IsNew s x _ = Unit {0}

-- what leads to tables without holes holds once a node has started what it may start, and the sessions are exact
abbrev pub StartFills : Type 0
StartFills = (p : SettingsValue) (s : System) (x : List ℕ) (start : Start) → Basis p s → AreNodes p s → may_start p s x start
    → IsNew s x start → (AreFilled p s → AreFilled p (after_start p s x start)) × AreExact (after_start p s x start)
