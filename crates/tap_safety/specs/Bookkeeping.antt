-- What the sessions, the frames and the stamps keep beside, so that the parts of the invariant follow from themselves.
use Rattle.std.specs.Prelude.{◌≡◌, ℕ, ◌+◌, ◌<◌, ◌≤◌, List, [], None, Some}
use Rattle.tap_name.specs.Name.{IsName}
use Rattle.tap_name.specs.Settings.{SettingsValue}
use Rattle.tap_name.specs.declared.slot.Slot.{Slot}
use Rattle.tap_link.specs.declared.kind.Kind.{Kind}
use Rattle.tap_wire.specs.declared.frame.Frame.{Frame}
use Rattle.tap_wire.specs.declared.frame.TellFields.{TellFields}
use Rattle.tap_rule.specs.Node.{NodeState, Status}
use Rattle.tap_rule.specs.Node.Status.{Joining, Core, Leaving, Gone, Ceased}
use Rattle.tap_safety.specs.Frames.{tell_body}
use Rattle.tap_safety.specs.Remembered.{OpenSession, TieWord}
use Rattle.tap_safety.specs.System.{System, AmongFrames, HasLink, IsCoreNode, IsUnderWay}
use Rattle.tap_safety.specs.Sessions.{Belongs, IsOpen}
use Rattle.tap_safety.specs.Seeking.{HasNode}
use Rattle.tap_safety.specs.Ties.{status_of, word_frame}

-- an open session awaits an answer
pub record Await (s : System) : Type 0 where
  pub some : (x : List ℕ) (k : ℕ) (session : OpenSession) → IsOpen s x k session → session.awaits ≡ [] → ⊥

-- a Tell under way is one deeper than its session, and its level is above its prefix
pub record TellsAreDeeper (s : System) : Type 0 where
  pub depth : (from to : List ℕ) (fields : TellFields) (watch : List Slot) (session : OpenSession)
      → IsUnderWay s from to (tell_body fields watch) → IsOpen s from fields.session session → fields.depth ≡ session.depth + 1
  pub level : (from to : List ℕ) (fields : TellFields) (watch : List Slot) → IsUnderWay s from to (tell_body fields watch)
      → fields.prefix < fields.level

-- a node with this status may have sessions open
abbrev pub holds_sessions : Status → Type 0
holds_sessions Joining = Unit
holds_sessions Core = Unit
holds_sessions Leaving = ⊥
holds_sessions Gone = ⊥
holds_sessions Ceased = Unit

-- an open session is of a core, joining or ceased node, which has opened as many; its joiner is another node, and its parent another node's
pub record HasPlace (s : System) (x : List ℕ) (k : ℕ) (session : OpenSession) : Type 0 where
  pub state : NodeState
  pub is : s.node x ≡ Some state
  pub holds : holds_sessions state.status
  pub opened : k ≤ state.sessions.opened
  pub other : session.joiner ≡ x → ⊥
  pub above : (w : List ℕ) (m : ℕ) → session.parent ≡ Some (w, m) → w ≡ x → ⊥

pub record HavePlaces (s : System) : Type 0 where
  pub places : (x : List ℕ) (k : ℕ) (session : OpenSession) → IsOpen s x k session → HasPlace s x k session

-- no frame goes to its sender, and its ends are known; so are who has sent a word, and to whom, and who has a surrogate
pub record HaveEnds (s : System) : Type 0 where
  pub apart : (number : ℕ) (f : Frame) → AmongFrames number f s.frames → f.from ≡ f.to → ⊥
  pub known : (number : ℕ) (f : Frame) → AmongFrames number f s.frames → HasNode s f.from × HasNode s f.to
  pub senders : (x t : List ℕ) (word : TieWord) → s.last x t ≡ Some word → HasNode s x
  pub receivers : (x t : List ℕ) (word : TieWord) → s.last x t ≡ Some word → HasNode s t
  pub surrogates : (b x : List ℕ) → s.surrogate b ≡ Some x → HasNode s b

-- a node with this status has a table
abbrev pub has_table : Status → Type 0
has_table Joining = Unit
has_table Core = Unit
has_table Leaving = Unit
has_table Gone = ⊥
has_table Ceased = ⊥

-- a word is under way once, and while a node has a table its stamp is no less than its words' versions
pub record AreStamped (s : System) : Type 0 where
  pub once : (x t : List ℕ) (word : TieWord) (m number : ℕ) → AmongFrames m (word_frame x t word) s.frames
      → AmongFrames number (word_frame x t word) s.frames → m ≡ number
  pub stamp : (x t : List ℕ) (word : TieWord) (state : NodeState) → s.node x ≡ Some state → has_table state.status
      → s.last x t ≡ Some word → word.version ≤ state.stamp

-- a node that has ended has no link
pub record EndedHaveNoLinks (s : System) : Type 0 where
  pub none : (x t : List ℕ) (kind : Kind) → HasLink s x t kind → (status_of s x ≡ Some Gone → ⊥) × (status_of s x ≡ Some Ceased → ⊥)

-- some node is core
pub record HasCore (s : System) : Type 0 where
  pub name : List ℕ
  pub core : IsCoreNode s name

-- nodes that hold sessions go on to, and have opened no fewer; and a session that is opened has its place
pub record KeepsPlaces (s s' : System) : Type 0 where
  pub nodes : (y : List ℕ) (k : ℕ) (state : NodeState) → s.node y ≡ Some state → holds_sessions state.status
      → (now : NodeState) × (s'.node y ≡ Some now) × holds_sessions now.status × (state.sessions.opened ≤ now.sessions.opened)
  pub new : (y : List ℕ) (m : ℕ) (o : OpenSession) → IsOpen s' y m o → s.session y m ≡ None → HasPlace s' y m o

-- each Tell that is sent is one deeper than its session, at a level above its prefix
pub record SendsDeeper (s' : System) (sent : List (ℕ × Frame)) : Type 0 where
  pub depth : (from to : List ℕ) (fields : TellFields) (watch : List Slot) (m : ℕ) (session : OpenSession)
      → AmongFrames m (record { from = from; to = to; body = tell_body fields watch }) sent → IsOpen s' from fields.session session
      → fields.depth ≡ session.depth + 1
  pub level : (from to : List ℕ) (fields : TellFields) (watch : List Slot) (m : ℕ)
      → AmongFrames m (record { from = from; to = to; body = tell_body fields watch }) sent → fields.prefix < fields.level

-- a frame is sent in this session
pub record SendsIn (sent : List (ℕ × Frame)) (x : List ℕ) (k : ℕ) : Type 0 where
  pub number : ℕ
  pub frame : Frame
  pub among : AmongFrames number frame sent
  pub belongs : Belongs frame x k

-- each node has a name of the settings
pub record NodesHaveNames (p : SettingsValue) (s : System) : Type 0 where
  pub each : (x : List ℕ) → HasNode s x → IsName p x
