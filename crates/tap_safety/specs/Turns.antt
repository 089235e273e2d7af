-- What a step makes of the sessions, whatever its kind: each open one goes on or is closed, each was open or is opened, and what is sent in
-- one is awaited there.
use Rattle.std.specs.Prelude.{◌≡◌, ℕ, List, ◌⊎◌, None, Some}
use Rattle.tap_wire.specs.declared.frame.Frame.{Frame}
use Rattle.tap_safety.specs.Remembered.{OpenSession}
use Rattle.tap_safety.specs.Remembered.Token.{Way, Child}
use Rattle.tap_safety.specs.System.{System, AmongFrames}
use Rattle.tap_safety.specs.Sessions.{AmongTokens, Awaits, Belongs, HasFrame, HasParent, IsOpen, IsRootless}

-- an open session goes on: it awaits what it awaited, of what is still to come
pub record SessionGoesOn (s s' : System) (y : List ℕ) (m : ℕ) (o : OpenSession) : Type 0 where
  pub now : OpenSession
  pub is : IsOpen s' y m now
  pub joiner : now.joiner ≡ o.joiner
  pub depth : now.depth ≡ o.depth
  pub parent : now.parent ≡ o.parent
  pub children : (z : List ℕ) (n : ℕ) (c : OpenSession) → IsOpen s' z n c → AmongTokens (Child z n) o.awaits
      → AmongTokens (Child z n) now.awaits
  pub ways : (n : ℕ) (f : Frame) → AmongFrames n f s'.frames → Belongs f y m → AmongTokens (Way n) o.awaits
      → AmongTokens (Way n) now.awaits

-- or it is closed: nothing that it awaited is still to come
pub record IsClosed (s s' : System) (y : List ℕ) (m : ℕ) (o : OpenSession) : Type 0 where
  pub gone : s'.session y m ≡ None
  pub children : (z : List ℕ) (n : ℕ) → AmongTokens (Child z n) o.awaits → ⊥
  pub ways : (n : ℕ) (f : Frame) → AmongFrames n f s'.frames → AmongTokens (Way n) o.awaits → ⊥

-- an open session was open: each frame that it awaits is sent, or it awaited it and it stays under way
pub record WasOpen (s s' : System) (sent : List (ℕ × Frame)) (y : List ℕ) (m : ℕ) (o : OpenSession) : Type 0 where
  pub old : OpenSession
  pub is : IsOpen s y m old
  pub joiner : o.joiner ≡ old.joiner
  pub depth : o.depth ≡ old.depth
  pub parent : o.parent ≡ old.parent
  pub ways : (n : ℕ) → AmongTokens (Way n) o.awaits → HasFrame sent n y m
      ⊎ (AmongTokens (Way n) old.awaits × ((f : Frame) → AmongFrames n f s.frames → Belongs f y m → AmongFrames n f s'.frames))

-- or it is new, at this place
pub record IsNewlyOpen (s s' : System) (sent : List (ℕ × Frame)) (y : List ℕ) (m : ℕ) (o : OpenSession) : Type 0 where
  pub none : s.session y m ≡ None
  pub ways : (n : ℕ) → AmongTokens (Way n) o.awaits → HasFrame sent n y m
  pub above : (w : List ℕ) (k : ℕ) → o.parent ≡ Some (w, k) → HasParent s' y m o w k
  pub root : o.parent ≡ None → IsRootless s o.joiner

-- the whole of it; and at most one is opened
pub record Turns (s s' : System) (sent : List (ℕ × Frame)) : Type 0 where
  pub fate : (y : List ℕ) (m : ℕ) (o : OpenSession) → IsOpen s y m o → SessionGoesOn s s' y m o ⊎ IsClosed s s' y m o
  pub origin : (y : List ℕ) (m : ℕ) (o : OpenSession) → IsOpen s' y m o → WasOpen s s' sent y m o ⊎ IsNewlyOpen s s' sent y m o
  pub one : (y z : List ℕ) (m n : ℕ) (o c : OpenSession) → IsOpen s' y m o → IsOpen s' z n c → s.session y m ≡ None
      → s.session z n ≡ None → (y ≡ z) × (m ≡ n)
  pub was : (m : ℕ) (f : Frame) (y : List ℕ) (k : ℕ) → AmongFrames m f s'.frames → Belongs f y k
      → AmongFrames m f s.frames ⊎ AmongFrames m f sent
  pub sends : (m : ℕ) (f : Frame) → AmongFrames m f sent → AmongFrames m f s'.frames
  pub asks : (m : ℕ) (f : Frame) (y : List ℕ) (n : ℕ) → AmongFrames m f sent → Belongs f y n → Awaits s' y n (Way m)
  pub is_one : (m : ℕ) (f g : Frame) → AmongFrames m f s'.frames → AmongFrames m g s'.frames → f ≡ g
