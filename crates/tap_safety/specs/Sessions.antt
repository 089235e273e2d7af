-- The sessions of joins, and the answers that each waits for, one token for each.
use Rattle.std.specs.Prelude.{◌≡◌, ◌==◌, ℕ, nat_eq, ◌+◌, Bool, false, ◌&&◌, if◌then◌else◌, List, [], ◌∷◌, ◌++◌, ◌⊎◌, Option, None, Some}
use Rattle.std.specs.Cmp.Lexicographic.{pointwise}
use Rattle.tap_wire.specs.declared.frame.Frame.{Frame}
use Rattle.tap_wire.specs.declared.frame.Body.{Body}
use Rattle.tap_wire.specs.declared.frame.Body.TheVariants.{Tell, Hello, Heard, Ack}
use Rattle.tap_safety.specs.Remembered.{OpenSession, Token}
use Rattle.tap_safety.specs.Remembered.Token.{Way, Child}
use Rattle.tap_safety.specs.System.{System, AmongFrames}

abbrev pub AmongTokens : Token → List Token → Type 0
AmongTokens token [] = ⊥
AmongTokens token (first ∷ others) = (token ≡ first) ⊎ AmongTokens token others

-- the session to which a frame with these ends belongs, by its node and number: it asks for an answer to it, or brings one
abbrev pub session_named : Body → List ℕ → List ℕ → Option (List ℕ × ℕ)
session_named (Tell joiner prefix level session depth watch) from to = Some (from, session)
session_named (Hello session core links) from to = Some (from, session)
session_named (Heard session) from to = Some (to, session)
session_named (Ack session) from to = Some (to, session)
session_named other from to = None

-- this is the session of that node and number
abbrev pub is_place : List ℕ → ℕ → List ℕ → ℕ → Bool
is_place x k y m = pointwise nat_eq y x && (m == k)

abbrev pub is_placed : Option (List ℕ × ℕ) → List ℕ → ℕ → Bool
is_placed None x k = false
is_placed (Some (y, m)) x k = is_place x k y m

abbrev pub Belongs : Frame → List ℕ → ℕ → Type 0
Belongs f x k = session_named f.body f.from f.to ≡ Some (x, k)

-- the session of x with this number is open, and is this
abbrev pub IsOpen : System → List ℕ → ℕ → OpenSession → Type 0
IsOpen s x k session = s.session x k ≡ Some session

-- the session of x with this number is open, and awaits this
pub record Awaits (s : System) (x : List ℕ) (k : ℕ) (token : Token) : Type 0 where
  pub session : OpenSession
  pub is : IsOpen s x k session
  pub among : AmongTokens token session.awaits

-- the frame of this number is among these, and belongs to the session of x with this number
pub record HasFrame (frames : List (ℕ × Frame)) (number : ℕ) (x : List ℕ) (k : ℕ) : Type 0 where
  pub frame : Frame
  pub among : AmongFrames number frame frames
  pub belongs : Belongs frame x k

-- the session of x with this number is open and awaits the session of y with that one; it is of the same joiner, and one less deep
pub record HasParent (s : System) (y : List ℕ) (l : ℕ) (child : OpenSession) (x : List ℕ) (k : ℕ) : Type 0 where
  pub parent : OpenSession
  pub is : IsOpen s x k parent
  pub among : AmongTokens (Child y l) parent.awaits
  pub joiner : child.joiner ≡ parent.joiner
  pub depth : child.depth ≡ parent.depth + 1

-- The sessions are exact: each frame that belongs to a session is awaited there, and each frame that is awaited is under way; each
-- session with a parent is awaited there; a joiner has at most one root session; and no two frames have one number.
pub record AreExact (s : System) : Type 0 where
  pub frames : (number : ℕ) (f : Frame) (x : List ℕ) (k : ℕ) → AmongFrames number f s.frames → Belongs f x k
      → Awaits s x k (Way number)
  pub ways : (x : List ℕ) (k number : ℕ) → Awaits s x k (Way number) → HasFrame s.frames number x k
  pub parents : (y : List ℕ) (l : ℕ) (child : OpenSession) (x : List ℕ) (k : ℕ) → IsOpen s y l child → child.parent ≡ Some (x, k)
      → HasParent s y l child x k
  pub roots : (x y : List ℕ) (k l : ℕ) (one two : OpenSession) → IsOpen s x k one → IsOpen s y l two → one.parent ≡ None
      → two.parent ≡ None → one.joiner ≡ two.joiner → (x ≡ y) × (k ≡ l)
  pub numbers : (number : ℕ) (f g : Frame) → AmongFrames number f s.frames → AmongFrames number g s.frames → f ≡ g

-- no root session of b is open
pub record IsRootless (s : System) (b : List ℕ) : Type 0 where
  pub none : (x : List ℕ) (k : ℕ) (session : OpenSession) → IsOpen s x k session → session.joiner ≡ b → session.parent ≡ None → ⊥

-- the session of x with this number is a root session, and awaits the frame of this number alone
pub record AwaitsLast (s : System) (x : List ℕ) (k number : ℕ) : Type 0 where
  pub root : OpenSession
  pub is : IsOpen s x k root
  pub top : root.parent ≡ None
  pub awaits : root.awaits ≡ Way number ∷ []

-- the tokens of those frames that belong to a session
unfoldable pub ways_of : List ℕ → ℕ → List (ℕ × Frame) → List Token
ways_of x k [] = []
ways_of x k (f ∷ fs) =
    if is_placed (session_named f.1.body f.1.from f.1.to) x k then Way f.0 ∷ ways_of x k fs else ways_of x k fs

-- the tokens, with these in place of that of a frame
unfoldable pub for_way : ℕ → List Token → List Token → List Token
for_way number new [] = []
for_way number new (Way other ∷ tokens) = (if other == number then new else Way other ∷ []) ++ for_way number new tokens
for_way number new (Child y l ∷ tokens) = Child y l ∷ for_way number new tokens

-- the tokens, with these in place of that of a session
unfoldable pub for_child : List ℕ → ℕ → List Token → List Token → List Token
for_child x k new [] = []
for_child x k new (Way number ∷ tokens) = Way number ∷ for_child x k new tokens
for_child x k new (Child y m ∷ tokens) = (if is_place x k y m then new else Child y m ∷ []) ++ for_child x k new tokens
