-- A step of a system: a frame is taken, others are sent, and one node changes.
use Rattle.std.specs.Prelude.{◌≡◌, ℕ, nat_eq, ◌+◌, ◌≤◌, if◌then◌else◌, List, [], ◌∷◌, ◌++◌, ◌⊎◌, length, Some}
use Rattle.std.specs.Cmp.Lexicographic.{pointwise}
use Rattle.tap_wire.specs.declared.frame.Body.{Body}
use Rattle.tap_wire.specs.declared.frame.Frame.{Frame}
use Rattle.tap_rule.specs.Node.{NodeState}
use Rattle.tap_rule.specs.Sent.{IsAmong}
use Rattle.tap_safety.specs.System.{System}

-- frames with their numbers, from this one on
abbrev pub numbered_from : ℕ → List Frame → List (ℕ × Frame)
numbered_from number [] = []
numbered_from number (frame ∷ frames) = (number, frame) ∷ numbered_from (number + 1) frames

module _ {A : Type 0} where
  -- the same, but that this name has this
  abbrev pub with_at : (List ℕ → A) → List ℕ → A → List ℕ → A
  with_at of x value y = if pointwise nat_eq y x then value else of y

-- a frame is taken and others are sent
pub record IsTaken (s s' : System) (number : ℕ) (frame : Frame) (sent : List Frame) : Type 0 where
  pub front : List (ℕ × Frame)
  pub back : List (ℕ × Frame)
  pub before : s.frames ≡ front ++ (number, frame) ∷ back
  pub after : s'.frames ≡ front ++ (back ++ numbered_from s.next sent)
  pub next : s'.next ≡ s.next + length sent

-- no frame is taken, and others are sent
pub record HasSent (s s' : System) (sent : List Frame) : Type 0 where
  pub after : s'.frames ≡ s.frames ++ numbered_from s.next sent
  pub next : s'.next ≡ s.next + length sent

-- the numbers of frames ascend, from this one on, below that one
abbrev pub Ascend : ℕ → List (ℕ × Frame) → ℕ → Type 0
Ascend low [] high = low ≤ high
Ascend low (f ∷ fs) high = (low ≤ f.0) × Ascend (f.0 + 1) fs high

-- the frames under way ascend by their numbers, which are below that of the next one
pub record AreNumbered (s : System) : Type 0 where
  pub numbers : Ascend 0 s.frames s.next

-- only the node of x changes
pub record ChangesAt (s s' : System) (x : List ℕ) (before after : NodeState) : Type 0 where
  pub was : s.node x ≡ Some before
  pub is : s'.node x ≡ Some after
  pub others : (y : List ℕ) → (y ≡ x) ⊎ (s'.node y ≡ s.node y)

-- a frame from x to t with this body is one of these
abbrev pub IsSent : List Frame → List ℕ → List ℕ → Body → Type 0
IsSent sent x t body = IsAmong (record { from = x; to = t; body = body }) sent
