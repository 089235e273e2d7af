-- A system: nodes by name, the frames that are under way, and what is remembered of the joins.
use Rattle.std.specs.Prelude.{◌≡◌, ℕ, List, [], ◌∷◌, ◌⊎◌, Option, Some, true}
use Rattle.tap_name.specs.declared.slot.Offered.{Offered}
use Rattle.tap_name.specs.declared.slot.Slot.{Slot}
use Rattle.tap_link.specs.declared.kind.Kind.{Kind}
use Rattle.tap_rule.specs.Node.{NodeState, level_kept, link_to}
use Rattle.tap_wire.specs.declared.frame.Body.{Body}
use Rattle.tap_wire.specs.declared.frame.Frame.{Frame}
use Rattle.tap_wire.specs.declared.frame.TellFields.{TellFields}
use Rattle.tap_rule.specs.Node.Status.{Joining, Core, Leaving}
use Rattle.tap_safety.specs.Frames.{HelloFields, hello_body, tell_body}
use Rattle.tap_safety.specs.Remembered.{Leaver, OpenSession, TieWord}

-- The node of each name, if there is one; the frames under way with their numbers, oldest first; and the number of the frame that
-- is sent next. What is remembered: of each joiner that was started its surrogate, the open session of a node and a number, the
-- last word of one name to another, and the node that departs, each if there is one.
pub record System : Type 0 where
  pub node : List ℕ → Option NodeState
  pub frames : List (ℕ × Frame)
  pub next : ℕ
  pub surrogate : List ℕ → Option (List ℕ)
  pub session : List ℕ → ℕ → Option OpenSession
  pub last : List ℕ → List ℕ → Option TieWord
  pub departing : Option Leaver

-- the frame of this number is one of these
abbrev pub AmongFrames : ℕ → Frame → List (ℕ × Frame) → Type 0
AmongFrames number frame [] = ⊥
AmongFrames number frame (f ∷ fs) = ((number ≡ f.0) × (frame ≡ f.1)) ⊎ AmongFrames number frame fs

-- a frame with this sender, receiver and body is under way
pub record IsUnderWay (s : System) (from to : List ℕ) (body : Body) : Type 0 where
  pub number : ℕ
  pub among : AmongFrames number (record { from = from; to = to; body = body }) s.frames

-- there is a core node of this name; a leaving node counts as core
pub record IsCoreNode (s : System) (x : List ℕ) : Type 0 where
  pub state : NodeState
  pub is : s.node x ≡ Some state
  pub core : (state.status ≡ Core) ⊎ (state.status ≡ Leaving)

-- there is a joining node of this name, and it was started: it has a surrogate
pub record IsJoiner (s : System) (x : List ℕ) : Type 0 where
  pub state : NodeState
  pub is : s.node x ≡ Some state
  pub joining : state.status ≡ Joining
  pub surrogate : List ℕ
  pub started : s.surrogate x ≡ Some surrogate

-- x has a link of this kind to y
pub record HasLink (s : System) (x y : List ℕ) (kind : Kind) : Type 0 where
  pub state : NodeState
  pub is : s.node x ≡ Some state
  pub link : link_to state y ≡ Some kind

-- x covers b at this level
pub record CoversAt (s : System) (x b : List ℕ) (level : ℕ) : Type 0 where
  pub state : NodeState
  pub is : s.node x ≡ Some state
  pub cover : level_kept state.covers b ≡ Some level

-- a Tell of b at this level is on its way to x
pub record IsTold (s : System) (b x : List ℕ) (level : ℕ) : Type 0 where
  pub from : List ℕ
  pub fields : TellFields
  pub watch : List Slot
  pub way : IsUnderWay s from x (tell_body fields watch)
  pub joiner : fields.joiner ≡ b
  pub level_is : fields.level ≡ level

-- the name is one of those offered
abbrev pub AmongOffered : List ℕ → List Offered → Type 0
AmongOffered x [] = ⊥
AmongOffered x (offered ∷ others) = (x ≡ offered.name) ⊎ AmongOffered x others

-- a Hello from w is on its way to b, and names x: it offers it, or it is from the core node x
pub record HelloNames (s : System) (w b x : List ℕ) : Type 0 where
  pub fields : HelloFields
  pub way : IsUnderWay s w b (hello_body fields)
  pub named : AmongOffered x fields.links ⊎ ((x ≡ w) × (fields.is_core ≡ true))
