-- A lookup that is made alone, from a system at rest.
use Rattle.std.specs.Prelude.{◌≡◌, ℕ, List, [], Option, None, Some}
use Rattle.tap_name.specs.Settings.{SettingsValue}
use Rattle.tap_pointer.specs.Pointers.{pair_of}
use Rattle.tap_surrogate.specs.Entered.{walk_entered}
use Rattle.tap_surrogate.specs.Nodes.{core_links}
use Rattle.tap_wire.specs.declared.frame.Body.{Body}
use Rattle.tap_wire.specs.declared.frame.Body.TheVariants.{Answer, Find}
use Rattle.tap_rule.specs.Event.News.{Answered}
use Rattle.tap_rule.specs.Event.Start.{Find as StartFind}
use Rattle.tap_rule.specs.Node.{NodeState}
use Rattle.tap_rule.specs.Sent.{IsAmong}
use Rattle.tap_safety.specs.Move.{MayArrive, may_start}
use Rattle.tap_safety.specs.Move.Move.{Begins, Delivers}
use Rattle.tap_safety.specs.System.{System, IsUnderWay}
use Rattle.tap_runs.specs.Observed.{nodes_of}
use Rattle.tap_moves.specs.Delivered.{after_delivery, after_start}
use Rattle.tap_safety_moves.specs.Sound.{Sound}
use Rattle.tap_pointer_moves.specs.Paths.{IsPublished}
use Rattle.tap_pointer_moves.specs.LaysTold.{PointersStand}
use Rattle.tap_pointer_moves.specs.LookupAnswers.{news_of}
use Rattle.tap_pointer_moves.specs.Lookups.{LookupsGoToCore}

-- The answer is exact: it names a server that publishes the object, and none only if no server does.
abbrev pub IsExact : System → List ℕ → Option (List ℕ) → Type 0
IsExact rest object (Some server) = IsPublished rest (pair_of object server)
IsExact rest object None = (server : List ℕ) → IsPublished rest (pair_of object server) → ⊥

-- the node is what it was, with the same links, and the same pointers
pub record IsAlike (before after : NodeState) : Type 0 where
  pub status : after.status ≡ before.status
  pub ties : after.ties ≡ before.ties
  pub pointers : after.pointers ≡ before.pointers

-- the node of this name was there, and was like this
pub record WasAlike (rest : System) (x : List ℕ) (node : NodeState) : Type 0 where
  pub before : NodeState
  pub was : rest.node x ≡ Some before
  pub alike : IsAlike before node

-- the walk of an object from its asker enters the node of this name at this level
abbrev pub IsOnWalk : SettingsValue → System → List ℕ → List ℕ → List ℕ → ℕ → Type 0
IsOnWalk p rest object asker to level =
    IsAmong (record { node = to; level = level }) (walk_entered p.base (core_links (nodes_of rest)) asker object)

-- this is a Find of the lookup, from its asker, which goes along the walk of its object, or an exact Answer of it
abbrev pub IsOfLookup : SettingsValue → System → ℕ → List ℕ → List ℕ → List ℕ → Body → Type 0
IsOfLookup p rest ticket object asker to (Find number sought by level) =
    (number ≡ ticket) × (sought ≡ object) × (by ≡ asker) × IsOnWalk p rest object asker to level
IsOfLookup p rest ticket object asker to (Answer number server) = (number ≡ ticket) × IsExact rest object server
IsOfLookup p rest ticket object asker to other = ⊥

-- Since the system was at rest nothing was under way but frames of this lookup, and each node is what it was.
pub record GoesAlone (p : SettingsValue) (rest : System) (ticket : ℕ) (object asker : List ℕ) (s : System) : Type 0 where
  pub nodes : (x : List ℕ) (node : NodeState) → s.node x ≡ Some node → WasAlike rest x node
  pub frames : (from to : List ℕ) (body : Body) → IsUnderWay s from to body → IsOfLookup p rest ticket object asker to body

-- so it is once the lookup is started, and an answer that is noted with it is exact
abbrev pub LookupBeginsAlone : Type 0
LookupBeginsAlone = (p : SettingsValue) (rest : System) (asker : List ℕ) (ticket : ℕ) (object : List ℕ) → Sound p rest → PointersStand rest
    → rest.frames ≡ [] → may_start p rest asker (StartFind ticket object)
    → GoesAlone p rest ticket object asker (after_start p rest asker (StartFind ticket object))
    × ((number : ℕ) (server : Option (List ℕ)) → news_of p rest (Begins asker (StartFind ticket object)) ≡ Some (Answered number server)
    → (number ≡ ticket) × IsExact rest object server)

-- and after each frame that is taken, with an answer that is noted then
abbrev pub LookupGoesOnAlone : Type 0
LookupGoesOnAlone = (p : SettingsValue) (rest s : System) (asker : List ℕ) (ticket : ℕ) (object : List ℕ) (number : ℕ) → Sound p rest
    → PointersStand rest → rest.frames ≡ [] → may_start p rest asker (StartFind ticket object) → Sound p s → LookupsGoToCore s
    → GoesAlone p rest ticket object asker s → MayArrive s number
    → GoesAlone p rest ticket object asker (after_delivery p s number)
    × ((answered : ℕ) (server : Option (List ℕ)) → news_of p s (Delivers number) ≡ Some (Answered answered server)
    → (answered ≡ ticket) × IsExact rest object server)
