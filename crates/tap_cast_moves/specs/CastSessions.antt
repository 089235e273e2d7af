-- The sessions of casts, as those of joins; and that no cast goes on while a node departs.
use Rattle.std.specs.Prelude.{◌≡◌, ℕ, ◌+◌, ◌≤◌, true, false, List, None, Some}
use Rattle.tap_name.specs.Prefix.{lcp}
use Rattle.tap_name.specs.Settings.{SettingsValue}
use Rattle.tap_wire.specs.declared.frame.Body.TheVariants.{Cast, CastAck}
use Rattle.tap_wire.specs.declared.frame.Frame.{Frame}
use Rattle.tap_rule.specs.Casts.{cast_of}
use Rattle.tap_rule.specs.Node.{NodeState, Status}
use Rattle.tap_rule.specs.Node.Status.{Ceased, Core, Gone, Joining, Leaving}
use Rattle.tap_safety.specs.Awaited.{AreAwaitedOnce}
use Rattle.tap_safety.specs.Bookkeeping.{Await, TellsAreDeeper}
use Rattle.tap_safety.specs.Counted.{AreCountedSo}
use Rattle.tap_safety.specs.Joins.{HasRoot, about}
use Rattle.tap_safety.specs.Remembered.{Leaver, OpenSession}
use Rattle.tap_safety.specs.Sessions.{AreExact, Belongs, IsOpen, IsRootless}
use Rattle.tap_safety.specs.System.{System, AmongFrames, IsUnderWay}
use Rattle.tap_cast_moves.specs.Remembered.{CastMemory, CastRun}
use Rattle.tap_cast_moves.specs.SeenCasts.{cast_name, seen}

-- a frame of a session is of its cast
pub record AreOfCasts (v : System) : Type 0 where
  pub frames : (m : ℕ) (f : Frame) (x : List ℕ) (k : ℕ) (session : OpenSession) (b : List ℕ) → AmongFrames m f v.frames → Belongs f x k
      → IsOpen v x k session → about f ≡ Some b → session.joiner ≡ b

-- What joins keep of their sessions: they are exact; each awaits an answer, each answer once, and as many as its node waits for; a Tell is
-- one deeper than its session; and a frame is of the joiner of its session.
pub record AreSessionsOf (v : System) : Type 0 where
  pub exact : AreExact v
  pub awaited : AreAwaitedOnce v
  pub await : Await v
  pub counted : AreCountedSo v
  pub deeper : TellsAreDeeper v
  pub of_casts : AreOfCasts v

-- An open session of casts is of a core node, which doesn't leave: it has opened as many, and keeps the number of its cast, which was
-- started; the parent is another node's, and a root session is the caster's; and it is no deeper than names have digits.
pub record HasCastPlace (p : SettingsValue) (s : System) (r : CastMemory) (x : List ℕ) (k : ℕ) (session : OpenSession) : Type 0 where
  pub state : NodeState
  pub is : s.node x ≡ Some state
  pub core : state.status ≡ Core
  pub from : 1 ≤ k
  pub opened : k ≤ state.cast_sessions.opened
  pub cast : session.joiner ≡ cast_name (cast_of state k)
  pub run : CastRun
  pub started : r.cast (cast_of state k) ≡ Some run
  pub root : session.parent ≡ None → run.caster ≡ x
  pub above : (w : List ℕ) (m : ℕ) → session.parent ≡ Some (w, m) → w ≡ x → ⊥
  pub shallow : session.depth ≤ p.digits

-- a node with this status answers a Cast
abbrev pub takes_casts : Status → Type 0
takes_casts Joining = Unit
takes_casts Core = Unit
takes_casts Leaving = ⊥
takes_casts Gone = ⊥
takes_casts Ceased = Unit

-- A Cast under way: its cast was started; its level is from the prefix's length on to the digits, and it is no deeper than its level; and
-- its receiver answers it, and begins with the prefix, as its sender does, with which it shares one digit less than the level.
pub record IsCastWay (p : SettingsValue) (s : System) (r : CastMemory) (sender to : List ℕ) (cast level depth : ℕ) : Type 0 where
  pub state : NodeState
  pub is : s.node to ≡ Some state
  pub takes : takes_casts state.status
  pub run : CastRun
  pub started : r.cast cast ≡ Some run
  pub from : run.level ≤ level
  pub within : level ≤ p.digits
  pub begins : run.level ≤ lcp run.caster to
  pub shallow : depth ≤ level
  pub level_is : level ≡ lcp sender to + 1
  pub sent_within : run.level ≤ lcp run.caster sender

-- a cast that isn't closed has a root session open, and one that is has none
pub record HasCastEnd (v : System) (cast : ℕ) (run : CastRun) : Type 0 where
  pub open_root : run.closed ≡ false → HasRoot v (cast_name cast)
  pub closed : run.closed ≡ true → IsRootless v (cast_name cast)

-- Sessions of casts.
pub record CastSessions (p : SettingsValue) (s : System) (r : CastMemory) : Type 0 where
  pub sessions : AreSessionsOf (seen s r)
  pub places : (x : List ℕ) (k : ℕ) (session : OpenSession) → r.session x k ≡ Some session → HasCastPlace p s r x k session
  pub ways : (number : ℕ) (from to : List ℕ) (cast level session depth : ℕ) (word : List ℕ)
      → AmongFrames number (record { from = from; to = to; body = Cast cast level session depth word }) s.frames
      → IsCastWay p s r from to cast level depth
  pub ends : (cast : ℕ) (run : CastRun) → r.cast cast ≡ Some run → HasCastEnd (seen s r) cast run

-- no Cast and no CastAck is under way
pub record NoCastWays (s : System) : Type 0 where
  pub casts : (from to : List ℕ) (cast level session depth : ℕ) (word : List ℕ)
      → IsUnderWay s from to (Cast cast level session depth word) → ⊥
  pub acks : (from to : List ℕ) (session : ℕ) → IsUnderWay s from to (CastAck session) → ⊥

-- no session of casts is open, and each cast is closed
pub record NoCastGoesOn (r : CastMemory) : Type 0 where
  pub sessions : (x : List ℕ) (k : ℕ) → r.session x k ≡ None
  pub closed : (cast : ℕ) (run : CastRun) → r.cast cast ≡ Some run → run.closed ≡ true

-- Quiet: while a node departs, no Cast and no CastAck is under way, no session of casts is open, and each cast is closed.
pub record CastsAreQuiet (s : System) (r : CastMemory) : Type 0 where
  pub ways : (leaver : Leaver) → s.departing ≡ Some leaver → NoCastWays s
  pub goes_on : (leaver : Leaver) → s.departing ≡ Some leaver → NoCastGoesOn r
