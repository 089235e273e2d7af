-- The notices of a departure: who sends them, and to whom.
use Rattle.std.specs.Prelude.{◌≡◌, ℕ, true, false, List, [], ◌⊎◌, Option, None, Some}
use Rattle.tap_name.specs.Names.{Among}
use Rattle.tap_table.specs.declared.tie.Tie.{Tie}
use Rattle.tap_wire.specs.declared.frame.Body.{Body}
use Rattle.tap_wire.specs.declared.frame.Body.TheVariants.{Gone, Leave, Left, Link}
use Rattle.tap_wire.specs.declared.kind.Kind.TheVariants as kind
use Rattle.tap_wire.specs.declared.frame.Frame.{Frame}
use Rattle.tap_wire.specs.declared.kind.Kind.{Kind}
use Rattle.tap_wire.specs.Kind.{kind_of}
use Rattle.tap_rule.specs.Node.{NodeState}
use Rattle.tap_rule.specs.Node.Status.{Ceased as CeasedStatus, Gone as GoneStatus, Leaving}
use Rattle.tap_rule.specs.Reaction.{Message}
use Rattle.tap_rule.specs.Sent.{IsAmong}
use Rattle.tap_safety.specs.Remembered.{Leaver}
use Rattle.tap_safety.specs.System.{System, AmongFrames, IsUnderWay}
use Rattle.tap_safety.specs.Departing.{Departs, HasReplaced}
use Rattle.tap_safety.specs.FrameSteps.{LinksStay, TakesFrame}
use Rattle.tap_safety.specs.Ties.{link_of, status_of}

-- a Leave, a Left or a Gone
abbrev pub IsNoticeKind : Kind → Type 0
IsNoticeKind kind.Leave = Unit
IsNoticeKind kind.Left = Unit
IsNoticeKind kind.Gone = Unit
IsNoticeKind other = ⊥

abbrev pub IsNotice : Body → Type 0
IsNotice body = IsNoticeKind (kind_of body)

-- x leaves, and awaits the answer of a
pub record IsAwaiting (s : System) (x a : List ℕ) : Type 0 where
  pub state : NodeState
  pub is : s.node x ≡ Some state
  pub leaving : state.status ≡ Leaving
  pub awaits : Among a state.awaited

-- a Leave of x to a, or the Left that answers it
abbrev pub IsBetween : List ℕ → List ℕ → Frame → Type 0
IsBetween x a frame =
    ((replacement : Option (List ℕ)) × (frame ≡ record { from = x; to = a; body = Leave replacement }))
    ⊎ (frame ≡ record { from = a; to = x; body = Left })

-- one of the two is under way, and no other
pub record HasOneNotice (s : System) (x a : List ℕ) : Type 0 where
  pub number : ℕ
  pub frame : Frame
  pub among : AmongFrames number frame s.frames
  pub between : IsBetween x a frame
  pub only : (m : ℕ) (f : Frame) → AmongFrames m f s.frames → IsBetween x a f → m ≡ number

-- x is the node that departs, and is gone
pub record IsGoneLeaver (s : System) (x : List ℕ) : Type 0 where
  pub leaver : Leaver
  pub departs : Departs s leaver
  pub is : leaver.name ≡ x
  pub gone : status_of s x ≡ Some GoneStatus

-- a has answered n: its link to n is marked, and the slot filled by another; or it has none any more, and n is gone
abbrev pub HasAnswered : System → List ℕ → List ℕ → Type 0
HasAnswered s a n = HasReplaced s a n ⊎ ((link_of s a n ≡ None) × (status_of s n ≡ Some GoneStatus))

-- While nobody departs no notice is under way. A Leave goes to one that its sender awaits, and a Left comes from one that its receiver awaits;
-- of each that is awaited there is one of the two; and a Gone comes from the leaver, once it is gone. A holder of the leaver that isn't awaited
-- any more has answered; and no word of a new link goes to a node that leaves or has ceased.
pub record Notices (s : System) : Type 0 where
  pub none : (x t : List ℕ) (body : Body) → s.departing ≡ None → IsUnderWay s x t body → IsNotice body → ⊥
  pub leaves : (x a : List ℕ) (replacement : Option (List ℕ)) → IsUnderWay s x a (Leave replacement) → IsAwaiting s x a
  pub lefts : (a x : List ℕ) → IsUnderWay s a x Left → IsAwaiting s x a
  pub one : (x a : List ℕ) → IsAwaiting s x a → HasOneNotice s x a
  pub gones : (x t : List ℕ) → IsUnderWay s x t Gone → IsGoneLeaver s x
  pub answered : (leaver : Leaver) (a : List ℕ) → Departs s leaver → Among a leaver.holders → (IsAwaiting s leaver.name a → ⊥)
      → HasAnswered s a leaver.name
  pub words : (leaver : Leaver) (x t : List ℕ) (version : ℕ) → Departs s leaver → IsUnderWay s x t (Link version true)
      → (status_of s t ≡ Some Leaving → ⊥) × (status_of s t ≡ Some CeasedStatus → ⊥)

-- A step while nobody departs: nobody does afterwards, nobody leaves, and no notice comes.
pub record IsAtPeace (s s' : System) : Type 0 where
  pub was : s.departing ≡ None
  pub is : s'.departing ≡ None
  pub leaving : (x : List ℕ) → status_of s' x ≡ Some Leaving → ⊥
  pub ways : (x t : List ℕ) (body : Body) → IsUnderWay s' x t body → IsNotice body → IsUnderWay s x t body

-- no message is a notice
abbrev pub AreNoNotices : List Message → Type 0
AreNoNotices messages = (m : Message) → IsAmong m messages → IsNotice m.body → ⊥

-- whoever departs does so until no frame is under way
abbrev pub UntilRest : System → System → Type 0
UntilRest s s' = (s'.departing ≡ None → (s.departing ≡ None) ⊎ (s'.frames ≡ []))
    × ((leaver : Leaver) → s'.departing ≡ Some leaver → s.departing ≡ Some leaver)

-- No notice goes or comes, whoever departs does so until no frame is under way, and nobody awaits other answers; links stay while a node
-- departs, and each word of a new link that comes is to a node that neither leaves nor has ceased.
pub record LeavesNotices (s s' : System) : Type 0 where
  pub until_rest : UntilRest s s'
  pub awaits : (x a : List ℕ) → IsAwaiting s x a → IsAwaiting s' x a
  pub awaited : (x a : List ℕ) → IsAwaiting s' x a → IsAwaiting s x a
  pub still : (m : ℕ) (f : Frame) → IsNotice f.body → AmongFrames m f s.frames → AmongFrames m f s'.frames
  pub was : (m : ℕ) (f : Frame) → IsNotice f.body → AmongFrames m f s'.frames → AmongFrames m f s.frames
  pub status : (x : List ℕ) → status_of s' x ≡ status_of s x
  pub links : (leaver : Leaver) (a t : List ℕ) → Departs s leaver → link_of s' a t ≡ link_of s a t
  pub words : (x t : List ℕ) (version : ℕ) → IsUnderWay s' x t (Link version true) → IsUnderWay s x t (Link version true)
      ⊎ ((status_of s' t ≡ Some Leaving → ⊥) × (status_of s' t ≡ Some CeasedStatus → ⊥))

-- a frame that is no notice, whose taker keeps its links and whom it awaits, and says of no new link
pub record IsNoticeless (s s' : System) (number : ℕ) (frame : Frame) (step : TakesFrame s s' number frame) : Type 0 where
  pub until_rest : UntilRest s s'
  pub links : LinksStay step.before step.after
  pub awaited : step.after.awaited ≡ step.before.awaited
  pub taken : IsNotice frame.body → ⊥
  pub messages : AreNoNotices step.messages
  pub words : (m : Message) → IsAmong m step.messages → (version : ℕ) → m.body ≡ Link version true → ⊥
  pub off : (tie : Tie) → IsAmong tie step.words → tie.on ≡ false
