-- Whose the sessions of joins are, and that each join has one end.
use Rattle.std.specs.Prelude.{◌≡◌, ℕ, List, ◌⊎◌, Option, None, Some}
use Rattle.tap_wire.specs.declared.frame.Body.{Body}
use Rattle.tap_wire.specs.declared.frame.Body.TheVariants.{Done, Tell}
use Rattle.tap_wire.specs.declared.frame.Frame.{Frame}
use Rattle.tap_wire.specs.declared.kind.Kind.{Kind}
use Rattle.tap_wire.specs.declared.kind.Kind.TheVariants.{Heard, Hello}
use Rattle.tap_wire.specs.Kind.{kind_of}
use Rattle.tap_safety.specs.Remembered.{OpenSession}
use Rattle.tap_safety.specs.System.{System, AmongFrames, IsJoiner, IsUnderWay}
use Rattle.tap_safety.specs.Sessions.{Belongs, IsOpen, IsRootless}

-- which end a frame of this kind is about
abbrev pub end_about : Kind → List ℕ → List ℕ → Option (List ℕ)
end_about Hello from to = Some to
end_about Heard from to = Some from
end_about other from to = None

abbrev pub about_of : Body → List ℕ → List ℕ → Option (List ℕ)
about_of (Tell joiner prefix level session depth watch) from to = Some joiner
about_of other from to = end_about (kind_of other) from to

-- whom a frame of a session is about: the joiner of a Tell, the receiver of a Hello, and the sender of a Heard
abbrev pub about : Frame → Option (List ℕ)
about f = about_of f.body f.from f.to

-- Each open session is of a joiner; a root session is its surrogate's, of depth 0; a frame of a session is about its joiner; and a Done
-- goes to a joiner.
pub record AreOfJoiners (s : System) : Type 0 where
  pub opened : (x : List ℕ) (k : ℕ) (session : OpenSession) → IsOpen s x k session → IsJoiner s session.joiner
  pub root : (x : List ℕ) (k : ℕ) (session : OpenSession) → IsOpen s x k session → session.parent ≡ None
      → (s.surrogate session.joiner ≡ Some x) × (session.depth ≡ 0)
  pub frames : (m : ℕ) (f : Frame) (x : List ℕ) (k : ℕ) (session : OpenSession) (b : List ℕ) → AmongFrames m f s.frames → Belongs f x k
      → IsOpen s x k session → about f ≡ Some b → session.joiner ≡ b
  pub dones : (w b : List ℕ) → IsUnderWay s w b Done → IsJoiner s b

-- a root session of b is open
pub record HasRoot (s : System) (b : List ℕ) : Type 0 where
  pub at : List ℕ
  pub number : ℕ
  pub session : OpenSession
  pub is : IsOpen s at number session
  pub joiner : session.joiner ≡ b
  pub top : session.parent ≡ None

-- one Done is on its way to b, and no other
pub record HasOneDone (s : System) (b : List ℕ) : Type 0 where
  pub from : List ℕ
  pub number : ℕ
  pub among : AmongFrames number (record { from = from; to = b; body = Done }) s.frames
  pub only : (w : List ℕ) (m : ℕ) → AmongFrames m (record { from = w; to = b; body = Done }) s.frames → m ≡ number

-- no Done is on its way to b
pub record HasNoDone (s : System) (b : List ℕ) : Type 0 where
  pub none : (w : List ℕ) → IsUnderWay s w b Done → ⊥

-- a joiner has its root session open, or one Done on its way, and never both
pub record EndsOnce (s : System) : Type 0 where
  pub ends : (b : List ℕ) → IsJoiner s b → (HasRoot s b × HasNoDone s b) ⊎ (IsRootless s b × HasOneDone s b)

-- the joiners are as before, with their surrogates
pub record JoinersStay (s s' : System) : Type 0 where
  pub on : (b : List ℕ) → IsJoiner s b → IsJoiner s' b
  pub was : (b : List ℕ) → IsJoiner s' b → IsJoiner s b
  pub surrogates : (b : List ℕ) → IsJoiner s b → s'.surrogate b ≡ s.surrogate b

-- each frame that is sent in a session is about the joiner of this session
abbrev pub AreAbout : System → List (ℕ × Frame) → Type 0
AreAbout s sent =
    (m : ℕ) (f : Frame) (x : List ℕ) (k : ℕ) (session : OpenSession) (b : List ℕ) → AmongFrames m f sent → Belongs f x k
    → IsOpen s x k session → about f ≡ Some b → session.joiner ≡ b

-- no Done is sent
abbrev pub NoDoneAmong : List (ℕ × Frame) → Type 0
NoDoneAmong sent = (m : ℕ) (w b : List ℕ) → AmongFrames m (record { from = w; to = b; body = Done }) sent → ⊥

-- the one Done that is sent goes to b
pub record SendsDone (sent : List (ℕ × Frame)) (b : List ℕ) : Type 0 where
  pub from : List ℕ
  pub number : ℕ
  pub among : AmongFrames number (record { from = from; to = b; body = Done }) sent
  pub only : (m : ℕ) (w c : List ℕ) → AmongFrames m (record { from = w; to = c; body = Done }) sent → (m ≡ number) × (c ≡ b)

-- b is a joiner now, with this surrogate, and wasn't; the other joiners are as before, with their surrogates
pub record JoinerIsNew (s s' : System) (x b : List ℕ) : Type 0 where
  pub on : (d : List ℕ) → IsJoiner s d → IsJoiner s' d
  pub was : (d : List ℕ) → IsJoiner s' d → IsJoiner s d ⊎ (d ≡ b)
  pub surrogates : (d : List ℕ) → IsJoiner s d → s'.surrogate d ≡ s.surrogate d
  pub new : IsJoiner s' b
  pub fresh : IsJoiner s b → ⊥
  pub seated : s'.surrogate b ≡ Some x
