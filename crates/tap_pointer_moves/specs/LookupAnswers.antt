-- What is known of a lookup: the object that was asked for, and who may be named as its server.
use Rattle.std.specs.Prelude.{◌≡◌, ℕ, Bool, true, List, Option, None, Some}
use Rattle.std.specs.Option.{option_map}
use Rattle.tap_name.specs.Settings.{SettingsValue}
use Rattle.tap_pointer.specs.declared.pair.Pair.{Pair}
use Rattle.tap_pointer.specs.Pointers.{pair_of}
use Rattle.tap_wire.specs.declared.frame.Body.TheVariants.{Answer, Find}
use Rattle.tap_wire.specs.declared.frame.Frame.{Frame}
use Rattle.tap_rule.specs.Act.{act}
use Rattle.tap_rule.specs.Event.{News}
use Rattle.tap_rule.specs.Event.Event.{Starts, Takes}
use Rattle.tap_rule.specs.Event.News.{Answered}
use Rattle.tap_rule.specs.Event.Start.{Find as StartFind}
use Rattle.tap_safety.specs.AtRest.{AreMembers, system_at_rest}
use Rattle.tap_safety.specs.Move.{Move, may_move}
use Rattle.tap_safety.specs.Move.Move.{Begins, Delivers}
use Rattle.tap_safety.specs.Moved.{moved, numbered_frame, starter}
use Rattle.tap_safety.specs.System.{System, IsUnderWay}
use Rattle.tap_safety_moves.specs.Sound.{Sound}
use Rattle.tap_pointer_moves.specs.Ever.{AreOfPublished}
use Rattle.tap_pointer_moves.specs.LaysTold.{PointersStand}

-- the lookup of the ticket asked for an object, and this was so of the pair of the object and the server that its answer names, if it
-- names one
pub record IsAnswerOf (asked : ℕ → List ℕ → Bool) (was : Pair → Bool) (ticket : ℕ) (server : Option (List ℕ)) : Type 0 where
  pub object : List ℕ
  pub asks : asked ticket object ≡ true
  pub served : (name : List ℕ) → server ≡ Some name → was (pair_of object name) ≡ true

-- each Find under way is for the object that its lookup asked for, and each Answer is one of its lookup
pub record LookupsAreOf (asked : ℕ → List ℕ → Bool) (was : Pair → Bool) (s : System) : Type 0 where
  pub finds : (from to : List ℕ) (ticket : ℕ) (object asker : List ℕ) (level : ℕ)
      → IsUnderWay s from to (Find ticket object asker level) → asked ticket object ≡ true
  pub answers : (from to : List ℕ) (ticket : ℕ) (server : Option (List ℕ)) → IsUnderWay s from to (Answer ticket server)
      → IsAnswerOf asked was ticket server

-- the news of a move, if it is made
abbrev pub news_of_frame : System → Option Frame → Option News
news_of_frame s None = None
news_of_frame s (Some frame) = option_map (λ node. (act node (Takes frame)).news) (s.node frame.to)

abbrev pub news_of : SettingsValue → System → Move → Option News
news_of p s (Begins x start) = option_map (λ node. (act node (Starts start)).news) (starter p s x start)
news_of p s (Delivers number) = news_of_frame s (numbered_frame number s.frames)

-- with the members at rest no lookup is under way
abbrev pub NoLookupsAtRest : Type 0
NoLookupsAtRest = (p : SettingsValue) (members : List (List ℕ)) (asked : ℕ → List ℕ → Bool) (was : Pair → Bool)
    → AreMembers p members → LookupsAreOf asked was (system_at_rest p members)

-- the lookup that a move starts, if it starts one, asked for its object
abbrev pub IsAskedFor : (ℕ → List ℕ → Bool) → Move → Type 0
IsAskedFor asked move = (x : List ℕ) (ticket : ℕ) (object : List ℕ) → move ≡ Begins x (StartFind ticket object)
    → asked ticket object ≡ true

-- If this was so of whatever is known of pairs, so it is of what lookups say after each possible move, if it was before, and of an answer
-- that the move notes.
abbrev pub LookupsStayOf : Type 0
LookupsStayOf = (p : SettingsValue) (s : System) (move : Move) (asked : ℕ → List ℕ → Bool) (was : Pair → Bool) → may_move p s move
    → Sound p s → PointersStand s → AreOfPublished was s → IsAskedFor asked move → LookupsAreOf asked was s
    → LookupsAreOf asked was (moved p s move)

abbrev pub NotedAnswersAreOf : Type 0
NotedAnswersAreOf = (p : SettingsValue) (s : System) (move : Move) (asked : ℕ → List ℕ → Bool) (was : Pair → Bool) → may_move p s move
    → Sound p s → PointersStand s → AreOfPublished was s → IsAskedFor asked move → LookupsAreOf asked was s → (ticket : ℕ)
    (server : Option (List ℕ)) → news_of p s move ≡ Some (Answered ticket server) → IsAnswerOf asked was ticket server
