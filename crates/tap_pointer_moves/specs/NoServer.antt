-- Answers without a server: where they come from, and what is then so if lookups alone are under way.
use Rattle.std.specs.Prelude.{◌≡◌, ◌⊎◌, ◌↔◌, ℕ, List, None, Some}
use Rattle.tap_name.specs.Name.{IsName}
use Rattle.tap_name.specs.Names.{Among}
use Rattle.tap_name.specs.Settings.{SettingsValue}
use Rattle.tap_table.specs.declared.next.Next.TheVariants.{Root}
use Rattle.tap_pointer.specs.declared.pair.Pair.{Pair}
use Rattle.tap_pointer.specs.Pointers.{pair_of}
use Rattle.tap_wire.specs.declared.frame.Body.{Body}
use Rattle.tap_wire.specs.declared.frame.Body.TheVariants.{Answer, Find}
use Rattle.tap_wire.specs.declared.kind.Kind.{Kind}
use Rattle.tap_wire.specs.declared.kind.Kind.TheVariants as kind
use Rattle.tap_wire.specs.Kind.{kind_of}
use Rattle.tap_rule.specs.Event.News.{Answered}
use Rattle.tap_rule.specs.Event.Start.{Find as StartFind}
use Rattle.tap_rule.specs.Node.{NodeState}
use Rattle.tap_rule.specs.Pointers.{next_hop}
use Rattle.tap_safety.specs.Move.{MayArrive, Move, may_move, may_start}
use Rattle.tap_safety.specs.Move.Move.{Begins}
use Rattle.tap_safety.specs.Moved.{moved}
use Rattle.tap_safety.specs.System.{System, AmongFrames, IsCoreNode, IsUnderWay}
use Rattle.tap_moves.specs.Delivered.{after_delivery}
use Rattle.tap_safety_moves.specs.Sound.{Sound}
use Rattle.tap_pointer_moves.specs.Paths.{HoldsPair, IsPublished, path_of}
use Rattle.tap_pointer_moves.specs.LaysTold.{PointersStand}
use Rattle.tap_pointer_moves.specs.Alone.{IsOnWalk}
use Rattle.tap_pointer_moves.specs.LookupAnswers.{news_of}
use Rattle.tap_pointer_moves.specs.Lookups.{LookupsGoToCore}

-- ---- the last node reached

-- a lookup that has come to x at this level ends there without a server: x holds no pair of the object, and has no next hop for it
pub record EndsAt (s : System) (x object : List ℕ) (level : ℕ) : Type 0 where
  pub state : NodeState
  pub is : s.node x ≡ Some state
  pub none : (server : List ℕ) → HoldsPair s x (pair_of object server) → ⊥
  pub last : next_hop state object level ≡ Root

-- the frame of this number is a Find of the lookup, which ends at its receiver
pub record EndsWith (s : System) (number ticket : ℕ) (object : List ℕ) : Type 0 where
  pub from : List ℕ
  pub to : List ℕ
  pub asker : List ℕ
  pub level : ℕ
  pub among : AmongFrames number (record { from = from; to = to; body = Find ticket object asker level }) s.frames
  pub ends : EndsAt s to object level

-- an Answer without a server is sent by a node at which the lookup ends, as it takes the lookup's Find
abbrev pub NoneComesFromEnds : Type 0
NoneComesFromEnds = (p : SettingsValue) (s : System) (number : ℕ) (from to : List ℕ) (ticket : ℕ) → MayArrive s number → Sound p s
    → IsUnderWay (after_delivery p s number) from to (Answer ticket None)
    → IsUnderWay s from to (Answer ticket None) ⊎ ((object : List ℕ) × EndsWith s number ticket object)

-- and if a lookup is answered without a server as it starts, it ends at its asker
abbrev pub NoneIsNotedAtEnds : Type 0
NoneIsNotedAtEnds = (p : SettingsValue) (s : System) (x : List ℕ) (ticket : ℕ) (object : List ℕ) → may_start p s x (StartFind ticket object)
    → Sound p s → news_of p s (Begins x (StartFind ticket object)) ≡ Some (Answered ticket None) → EndsAt s x object 0

-- ---- lookups alone

-- a Find or an Answer
abbrev IsLookupKind : Kind → Type 0
IsLookupKind kind.Find = Unit {0}
IsLookupKind kind.Answer = Unit {0}
IsLookupKind other = ⊥

abbrev pub IsLookup : Body → Type 0
IsLookup body = IsLookupKind (kind_of body)

-- nothing is under way but Finds and Answers, of whichever lookups
pub record AreLookups (s : System) : Type 0 where
  pub each : (from to : List ℕ) (body : Body) → IsUnderWay s from to body → IsLookup body

-- then pointers stand exactly on their paths, as at rest
abbrev pub PointersOnPathsBeside : Type 0
PointersOnPathsBeside = (p : SettingsValue) (s : System) (x : List ℕ) (pair : Pair) → Sound p s → PointersStand s → AreLookups s
    → HoldsPair s x pair ↔ (IsPublished s pair × Among x (path_of p s pair))

-- and where a lookup ends that has gone along the walk of its object, no server publishes the object
abbrev pub EndsOfWalksAreExact : Type 0
EndsOfWalksAreExact = (p : SettingsValue) (s : System) (x object asker : List ℕ) (level : ℕ) → Sound p s → PointersStand s → AreLookups s
    → IsName p object → IsCoreNode s asker → IsCoreNode s x → IsOnWalk p s object asker x level → EndsAt s x object level
    → (server : List ℕ) → IsPublished s (pair_of object server) → ⊥

-- ---- Finds under way

-- The Find comes from one of the same lookup that was under way before: if lookups alone were under way then, and that one was to go where
-- the walk of its object enters its receiver, so is this one after the move.
pub record ComesOn (p : SettingsValue) (s s' : System) (ticket : ℕ) (object asker to : List ℕ) (level : ℕ) : Type 0 where
  pub from : List ℕ
  pub at : List ℕ
  pub entered : ℕ
  pub way : IsUnderWay s from at (Find ticket object asker entered)
  pub on : AreLookups s → IsOnWalk p s object asker at entered → IsOnWalk p s' object asker to level

-- If lookups alone are under way after a possible move, then each Find under way is so, or it is to go where the walk of its object enters
-- its receiver.
abbrev pub FindsStayOnWalks : Type 0
FindsStayOnWalks = (p : SettingsValue) (s : System) (move : Move) → may_move p s move → Sound p s → PointersStand s → LookupsGoToCore s
    → AreLookups (moved p s move) → (from to : List ℕ) (ticket : ℕ) (object asker : List ℕ) (level : ℕ)
    → IsUnderWay (moved p s move) from to (Find ticket object asker level)
    → ComesOn p s (moved p s move) ticket object asker to level ⊎ IsOnWalk p (moved p s move) object asker to level
