-- What the kinds of steps do with the sessions of joins.
use Rattle.std.specs.Prelude.{◌≡◌, ℕ, ◌+◌, List, [], ◌∷◌, ◌⊎◌, None, Some}
use Rattle.tap_wire.specs.declared.frame.Frame.{Frame}
use Rattle.tap_safety.specs.Remembered.{OpenSession, Token}
use Rattle.tap_safety.specs.Remembered.Token.{Way, Child}
use Rattle.tap_safety.specs.System.{System, AmongFrames}
use Rattle.tap_safety.specs.Sessions.{AmongTokens, Belongs, IsOpen, IsRootless, for_child, for_way, ways_of}

-- A frame is taken, and these are sent: no other frame goes, none else comes, and numbers stay apart.
pub record Exchanges (s s' : System) (number : ℕ) (f : Frame) (sent : List (ℕ × Frame)) : Type 0 where
  pub taken : AmongFrames number f s.frames
  pub gone : (g : Frame) → AmongFrames number g s'.frames → ⊥
  pub still : (m : ℕ) (g : Frame) → AmongFrames m g s.frames → (m ≡ number) ⊎ AmongFrames m g s'.frames
  pub was : (m : ℕ) (g : Frame) → AmongFrames m g s'.frames → AmongFrames m g s.frames ⊎ AmongFrames m g sent
  pub sends : (m : ℕ) (g : Frame) → AmongFrames m g sent → AmongFrames m g s'.frames
  pub was_one : (m : ℕ) (g other : Frame) → AmongFrames m g s.frames → AmongFrames m other s.frames → g ≡ other
  pub is_one : (m : ℕ) (g other : Frame) → AmongFrames m g s'.frames → AmongFrames m other s'.frames → g ≡ other

-- the session, but that it awaits these
abbrev pub with_awaits : OpenSession → List Token → OpenSession
with_awaits session tokens = record session { awaits = tokens }

-- A frame of the session k of w is answered at once, or is an answer that isn't its last one: in its place the session awaits what is
-- sent in it, and no other session changes.
pub record HandsOn (s s' : System) (number : ℕ) (f : Frame) (w : List ℕ) (k : ℕ) (sent : List (ℕ × Frame)) : Type 0 where
  pub frames : Exchanges s s' number f sent
  pub belongs : Belongs f w k
  pub before : OpenSession
  pub was : IsOpen s w k before
  pub is : IsOpen s' w k (with_awaits before (for_way number (ways_of w k sent) before.awaits))
  pub others : (y : List ℕ) (m : ℕ) → ((y ≡ w) × (m ≡ k)) ⊎ (s'.session y m ≡ s.session y m)
  pub asks : (m : ℕ) (g : Frame) (y : List ℕ) (n : ℕ) → AmongFrames m g sent → Belongs g y n → (y ≡ w) × (n ≡ k)

-- the session once a new session stands in place of a frame
abbrev pub with_child : OpenSession → ℕ → List ℕ → ℕ → OpenSession
with_child session number x l = with_awaits session (for_way number (Child x l ∷ []) session.awaits)

-- a session that answers this one in the end, with what it awaits
abbrev pub child_of : OpenSession → List ℕ → ℕ → List Token → OpenSession
child_of session w k awaits = record {
  joiner = session.joiner;
  parent = Some (w, k);
  depth = session.depth + 1;
  awaits = awaits;
}

-- A frame of the session k of w is taken at x, which opens its session l for what it sends: the session k awaits the new one in its
-- place, and the new one awaits each frame that is sent in it.
pub record OpensChild (s s' : System) (number : ℕ) (f : Frame) (w : List ℕ) (k : ℕ) (x : List ℕ) (l : ℕ) (sent : List (ℕ × Frame))
    : Type 0 where
  pub frames : Exchanges s s' number f sent
  pub belongs : Belongs f w k
  pub before : OpenSession
  pub parent_was : IsOpen s w k before
  pub parent_is : IsOpen s' w k (with_child before number x l)
  pub none : s.session x l ≡ None
  pub child : IsOpen s' x l (child_of before w k (ways_of x l sent))
  pub others : (y : List ℕ) (m : ℕ) → ((y ≡ w) × (m ≡ k)) ⊎ (((y ≡ x) × (m ≡ l)) ⊎ (s'.session y m ≡ s.session y m))
  pub asks : (m : ℕ) (g : Frame) (y : List ℕ) (n : ℕ) → AmongFrames m g sent → Belongs g y n → (y ≡ x) × (n ≡ l)

-- The surrogate x of b opens its session l, a root session, for what it sends.
pub record OpensRoot (s s' : System) (number : ℕ) (f : Frame) (x : List ℕ) (l : ℕ) (sent : List (ℕ × Frame)) : Type 0 where
  pub frames : Exchanges s s' number f sent
  pub apart : (y : List ℕ) (n : ℕ) → Belongs f y n → ⊥
  pub none : s.session x l ≡ None
  pub root : OpenSession
  pub is : IsOpen s' x l root
  pub top : root.parent ≡ None
  pub deep : root.depth ≡ 0
  pub awaits : root.awaits ≡ ways_of x l sent
  pub rootless : IsRootless s root.joiner
  pub others : (y : List ℕ) (m : ℕ) → ((y ≡ x) × (m ≡ l)) ⊎ (s'.session y m ≡ s.session y m)
  pub asks : (m : ℕ) (g : Frame) (y : List ℕ) (n : ℕ) → AmongFrames m g sent → Belongs g y n → (y ≡ x) × (n ≡ l)

-- the session of x with this number awaits this frame alone, and is closed
pub record Closes (s s' : System) (x : List ℕ) (k number : ℕ) : Type 0 where
  pub session : OpenSession
  pub was : IsOpen s x k session
  pub only : (token : Token) → AmongTokens token session.awaits → token ≡ Way number
  pub gone : s'.session x k ≡ None

-- The last answer of the session k of x is taken: the session m of w, which awaited it, awaits what is sent in its place.
pub record ClosesChild (s s' : System) (number : ℕ) (f : Frame) (x : List ℕ) (k : ℕ) (w : List ℕ) (m : ℕ) (sent : List (ℕ × Frame))
    : Type 0 where
  pub frames : Exchanges s s' number f sent
  pub belongs : Belongs f x k
  pub closes : Closes s s' x k number
  pub above : closes.session.parent ≡ Some (w, m)
  pub before : OpenSession
  pub parent_was : IsOpen s w m before
  pub parent_is : IsOpen s' w m (with_awaits before (for_child x k (ways_of w m sent) before.awaits))
  pub others : (y : List ℕ) (n : ℕ) → ((y ≡ x) × (n ≡ k)) ⊎ (((y ≡ w) × (n ≡ m)) ⊎ (s'.session y n ≡ s.session y n))
  pub asks : (n : ℕ) (g : Frame) (y : List ℕ) (l : ℕ) → AmongFrames n g sent → Belongs g y l → (y ≡ w) × (l ≡ m)

-- The last answer of the root session k of x is taken: nothing that is sent belongs to a session.
pub record ClosesRoot (s s' : System) (number : ℕ) (f : Frame) (x : List ℕ) (k : ℕ) (sent : List (ℕ × Frame)) : Type 0 where
  pub frames : Exchanges s s' number f sent
  pub belongs : Belongs f x k
  pub closes : Closes s s' x k number
  pub top : closes.session.parent ≡ None
  pub others : (y : List ℕ) (n : ℕ) → ((y ≡ x) × (n ≡ k)) ⊎ (s'.session y n ≡ s.session y n)
  pub asks : (n : ℕ) (g : Frame) (y : List ℕ) (l : ℕ) → AmongFrames n g sent → Belongs g y l → ⊥

-- No session changes, and no frame goes or comes that belongs to one.
pub record LeavesSessions (s s' : System) : Type 0 where
  pub sessions : (y : List ℕ) (m : ℕ) → s'.session y m ≡ s.session y m
  pub still : (m : ℕ) (f : Frame) (y : List ℕ) (k : ℕ) → AmongFrames m f s.frames → Belongs f y k → AmongFrames m f s'.frames
  pub was : (m : ℕ) (f : Frame) (y : List ℕ) (k : ℕ) → AmongFrames m f s'.frames → Belongs f y k → AmongFrames m f s.frames
  pub is_one : (m : ℕ) (g other : Frame) → AmongFrames m g s'.frames → AmongFrames m other s'.frames → g ≡ other
