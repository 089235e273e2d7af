-- Joining nodes that aren't started: nobody knows them but their one Seek.
use Rattle.std.specs.Prelude.{◌≡◌, ℕ, List, None, Some}
use Rattle.tap_wire.specs.declared.frame.Body.TheVariants.{Seek}
use Rattle.tap_rule.specs.Node.{NodeState}
use Rattle.tap_rule.specs.Node.Status.{Joining}
use Rattle.tap_safety.specs.Frames.{HelloFields, hello_body}
use Rattle.tap_safety.specs.System.{System, AmongFrames, CoversAt, IsCoreNode, HelloNames, IsTold, IsUnderWay}
use Rattle.tap_safety.specs.Regions.{Has}

-- there is, or was, a node of this name
pub record HasNode (s : System) (x : List ℕ) : Type 0 where
  pub state : NodeState
  pub is : s.node x ≡ Some state

-- there is a joining node of this name, and it isn't started
pub record IsSeeker (s : System) (x : List ℕ) : Type 0 where
  pub state : NodeState
  pub is : s.node x ≡ Some state
  pub joining : state.status ≡ Joining
  pub waits : s.surrogate x ≡ None

-- one Seek of x is under way, and no other; it goes to a core node
pub record HasOneSeek (s : System) (x : List ℕ) : Type 0 where
  pub from : List ℕ
  pub to : List ℕ
  pub number : ℕ
  pub among : AmongFrames number (record { from = from; to = to; body = Seek x }) s.frames
  pub core : IsCoreNode s to
  pub only : (w t : List ℕ) (m : ℕ) → AmongFrames m (record { from = w; to = t; body = Seek x }) s.frames → m ≡ number

-- no table, Tell, Hello or cover names x
pub record IsUnknown (s : System) (x : List ℕ) : Type 0 where
  pub linked : (y : List ℕ) → Has s y x → ⊥
  pub told : (b t : List ℕ) (level : ℕ) → IsTold s b t level → (b ≡ x → ⊥) × (t ≡ x → ⊥)
  pub greeted : (w b : List ℕ) (fields : HelloFields) → IsUnderWay s w b (hello_body fields) → (w ≡ x → ⊥) × (b ≡ x → ⊥)
  pub offered : (w b : List ℕ) → HelloNames s w b x → ⊥
  pub covered : (y : List ℕ) (level : ℕ) → CoversAt s y x level → ⊥

-- Seeking: of each seeker one Seek is under way, and nothing else names it; it covers nobody; and each cover is of a known name
pub record Seeking (s : System) : Type 0 where
  pub seeks : (x : List ℕ) → IsSeeker s x → HasOneSeek s x
  pub unknown : (x : List ℕ) → IsSeeker s x → IsUnknown s x
  pub idle : (x d : List ℕ) (level : ℕ) → IsSeeker s x → CoversAt s x d level → ⊥
  pub covers : (y b : List ℕ) (level : ℕ) → CoversAt s y b level → HasNode s b

-- a Seek under way is of a seeker
pub record AreOfSeekers (s : System) : Type 0 where
  pub seeks : (from to x : List ℕ) → IsUnderWay s from to (Seek x) → IsSeeker s x
