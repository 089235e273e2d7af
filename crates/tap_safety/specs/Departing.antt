-- What is so while a node departs, and that nothing of it is left otherwise.
use Rattle.std.specs.Prelude.{◌≡◌, ℕ, ◌<◌, true, List, [], ◌⊎◌, Option, None, Some}
use Rattle.tap_name.specs.Prefix.{lcp}
use Rattle.tap_name.specs.Names.{Among}
use Rattle.tap_link.specs.declared.kind.Kind.{Kind}
use Rattle.tap_link.specs.declared.kind.Kind.TheVariants.{Pin, Settled, Leaving as LeavingKind}
use Rattle.tap_wire.specs.declared.frame.Body.{Body}
use Rattle.tap_wire.specs.declared.frame.Body.TheVariants.{Forget, Gone, Leave, Left, Link, Release}
use Rattle.tap_wire.specs.declared.kind.Kind.{Kind as FrameKind}
use Rattle.tap_wire.specs.declared.kind.Kind.TheVariants.{Seek, Tell, Hello, Heard, Ack, Done, Find, Answer, Cast, CastAck}
use Rattle.tap_wire.specs.Kind.{kind_of}
use Rattle.tap_rule.specs.Node.{NodeState, link_to}
use Rattle.tap_rule.specs.Node.Status.{Gone as GoneStatus, Joining, Leaving}
use Rattle.tap_safety.specs.Remembered.{Leaver}
use Rattle.tap_safety.specs.System.{System, HasLink, IsCoreNode, IsUnderWay}
use Rattle.tap_safety.specs.Ties.{status_of}

-- this node departs
abbrev pub Departs : System → Leaver → Type 0
Departs s leaver = s.departing ≡ Some leaver

-- what may be under way while a node departs: no frame of a join, of a lookup or of a cast
abbrev MayBeThen : FrameKind → Type 0
MayBeThen Seek = ⊥
MayBeThen Tell = ⊥
MayBeThen Hello = ⊥
MayBeThen Heard = ⊥
MayBeThen Ack = ⊥
MayBeThen Done = ⊥
MayBeThen Find = ⊥
MayBeThen Answer = ⊥
MayBeThen Cast = ⊥
MayBeThen CastAck = ⊥
MayBeThen other = Unit

abbrev pub may_be_then : Body → Type 0
may_be_then body = MayBeThen (kind_of body)

-- a core node other than n is in the slot of n at a
pub record HasOther (s : System) (a n : List ℕ) : Type 0 where
  pub other : List ℕ
  pub core : IsCoreNode s other
  pub apart : other ≡ n → ⊥
  pub near : lcp a n < lcp n other

-- the replacement fits the slot of n at a, if another core node does
abbrev pub FitsSlot : System → List ℕ → List ℕ → Option (List ℕ) → Type 0
FitsSlot s a n None = HasOther s a n → ⊥
FitsSlot s a n (Some r) = (r ≡ n → ⊥) × (lcp a n < lcp n r)

-- a has a settled link in the slot of n, if another core node is in it
pub record HasReplaced (s : System) (a n : List ℕ) : Type 0 where
  pub marked : HasLink s a n LeavingKind
  pub filled : HasOther s a n → (to : List ℕ) × HasLink s a to Settled × (lcp a n < lcp n to)

-- while n leaves: whom it awaits were holders; its links are as at its start, and settled; and who has a link to it was a holder
pub record WhileLeaving (s : System) (leaver : Leaver) (state : NodeState) : Type 0 where
  pub some : state.awaited ≡ [] → ⊥
  pub holders : (a : List ℕ) → Among a state.awaited → Among a leaver.holders
  pub links : (t : List ℕ) → link_to state t ≡ leaver.links t
  pub settled : (t : List ℕ) (kind : Kind) → link_to state t ≡ Some kind → kind ≡ Settled
  pub linked : (y : List ℕ) (kind : Kind) → HasLink s y leaver.name kind → Among y leaver.holders

-- While a node departs, no node joins, no table has a pin, no other node leaves or is marked, and only such
-- frames are under way; the leaver leaves or is gone, and then each link to it is marked, and its Gone is under way.
pub record WhileDeparting (s : System) (leaver : Leaver) : Type 0 where
  pub joining : (x : List ℕ) → status_of s x ≡ Some Joining → ⊥
  pub pins : (x t : List ℕ) → HasLink s x t Pin → ⊥
  pub marked : (x t : List ℕ) → HasLink s x t LeavingKind → t ≡ leaver.name
  pub leaving : (x : List ℕ) → status_of s x ≡ Some Leaving → x ≡ leaver.name
  pub frames : (x t : List ℕ) (body : Body) → IsUnderWay s x t body → may_be_then body
  pub ends : (status_of s leaver.name ≡ Some Leaving) ⊎ (status_of s leaver.name ≡ Some GoneStatus)
  pub goes : (state : NodeState) → s.node leaver.name ≡ Some state → state.status ≡ Leaving → WhileLeaving s leaver state
  pub gone : status_of s leaver.name ≡ Some GoneStatus → (y : List ℕ) (kind : Kind) → HasLink s y leaver.name kind
      → HasReplaced s y leaver.name × IsUnderWay s leaver.name y Gone
  pub leaves : (x a : List ℕ) (replacement : Option (List ℕ)) → IsUnderWay s x a (Leave replacement)
      → (x ≡ leaver.name) × HasLink s a x Settled × FitsSlot s a x replacement
  pub lefts : (a x : List ℕ) → IsUnderWay s a x Left → (x ≡ leaver.name) × HasReplaced s a x
  pub quiet : (x t : List ℕ) (version : ℕ) → IsUnderWay s x t (Link version true) → (t ≡ leaver.name → ⊥) × (x ≡ leaver.name → ⊥)
  pub releases : (x t : List ℕ) → IsUnderWay s x t Release → (t ≡ leaver.name → ⊥) × (x ≡ leaver.name → ⊥)
  pub forgets : (x t : List ℕ) → IsUnderWay s x t Forget → ⊥

pub record Departure (s : System) : Type 0 where
  pub during : (leaver : Leaver) → Departs s leaver → WhileDeparting s leaver
  pub marked : (x t : List ℕ) → s.departing ≡ None → HasLink s x t LeavingKind → ⊥
  pub leaving : (x : List ℕ) → s.departing ≡ None → status_of s x ≡ Some Leaving → ⊥
