-- Runs in which nothing but joins is started, and what is sent in them.
use Rattle.std.specs.Prelude.{◌≡◌, ℕ, false, List, [], ◌∷◌, Option, Some}
use Rattle.tap_name.specs.Names.{has_name}
use Rattle.tap_name.specs.Settings.{SettingsValue}
use Rattle.tap_wire.specs.declared.frame.Body.{Body}
use Rattle.tap_wire.specs.declared.frame.Body.TheVariants.{Done, Seek}
use Rattle.tap_wire.specs.declared.kind.Kind.TheVariants as kind
use Rattle.tap_wire.specs.declared.frame.Frame.{Frame}
use Rattle.tap_wire.specs.declared.kind.Kind.{Kind}
use Rattle.tap_wire.specs.Kind.{kind_of}
use Rattle.tap_rule.specs.Event.{Start}
use Rattle.tap_rule.specs.Event.Start.{Join}
use Rattle.tap_rule.specs.Sent.{IsAmong}
use Rattle.tap_safety.specs.AtRest.{AreMembers, system_at_rest}
use Rattle.tap_safety.specs.Joins.{about_of}
use Rattle.tap_safety.specs.Move.{Move}
use Rattle.tap_safety.specs.Move.Move.{Begins, Delivers}
use Rattle.tap_safety.specs.Seeking.{HasNode}
use Rattle.tap_safety.specs.System.{System}
use Rattle.tap_safety_moves.specs.SoundMoves.{after_moves, may_run}
use Rattle.tap_bounds.specs.FewSent.{traffic_of}
use Rattle.tap_bounds.specs.Traffic.{Traffic, no_traffic}

-- ---- runs

abbrev pub IsJoin : Start → Type 0
IsJoin (Join via) = Unit {0}
IsJoin other = ⊥

-- the move starts nothing but a join
abbrev pub IsOfJoin : Move → Type 0
IsOfJoin (Begins x start) = IsJoin start
IsOfJoin (Delivers number) = Unit {0}

-- nothing but joins is started, and whichever frames are delivered
abbrev pub JoinsAlone : List Move → Type 0
JoinsAlone [] = Unit {0}
JoinsAlone (move ∷ moves) = IsOfJoin move × JoinsAlone moves

-- ---- frames

-- the kinds of frames that joins bring
abbrev pub IsJoinKind : Kind → Type 0
IsJoinKind kind.Seek = Unit {0}
IsJoinKind kind.Tell = Unit {0}
IsJoinKind kind.Hello = Unit {0}
IsJoinKind kind.Heard = Unit {0}
IsJoinKind kind.Ack = Unit {0}
IsJoinKind kind.Done = Unit {0}
IsJoinKind kind.Release = Unit {0}
IsJoinKind kind.Link = Unit {0}
IsJoinKind other = ⊥

abbrev pub IsJoinBody : Body → Type 0
IsJoinBody body = IsJoinKind (kind_of body)

abbrev pub joiner_named : Body → List ℕ → List ℕ → Option (List ℕ)
joiner_named (Seek joiner) from to = Some joiner
joiner_named Done from to = Some to
joiner_named other from to = about_of other from to

-- whose join a frame is of, if it says so: the joiner of a Seek and of a Tell, the receiver of a Hello and of a Done, and the sender of a
-- Heard
abbrev pub joiner_said : Frame → Option (List ℕ)
joiner_said f = joiner_named f.body f.from f.to

-- Each frame that was sent is of such a kind, its joiner is no member, and its sender and its receiver are nodes.
pub record SentAreOfJoins (members : List (List ℕ)) (s : System) (r : Traffic) : Type 0 where
  pub kinds : (f : Frame) → IsAmong f r.sent → IsJoinBody f.body
  pub joiners : (f : Frame) (b : List ℕ) → IsAmong f r.sent → joiner_said f ≡ Some b → has_name members b ≡ false
  pub ends : (f : Frame) → IsAmong f r.sent → HasNode s f.from × HasNode s f.to

-- So it is at each moment of each run from members at rest in which nothing but joins is started.
abbrev pub RunSentAreOfJoins : Type 0
RunSentAreOfJoins = (p : SettingsValue) (members : List (List ℕ)) (moves : List Move) → AreMembers p members
    → may_run p (system_at_rest p members) moves → JoinsAlone moves
    → SentAreOfJoins members (after_moves p (system_at_rest p members) moves) (traffic_of p (system_at_rest p members) no_traffic moves)
