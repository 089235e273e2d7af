-- The watch clause: what holds of Tells, of answers and of covers, at each moment.
use Rattle.std.specs.Prelude.{◌≡◌, ◌⊎◌, ℕ, true, List, [], ◌∷◌, Contains}
use Rattle.tap_name.specs.Settings.{SettingsValue}
use Rattle.tap_name.specs.Slot.{Fits}
use Rattle.tap_name.specs.declared.slot.Slot.{Slot}
use Rattle.tap_watch.specs.Watch.{IsWatched}
use Rattle.tap_wire.specs.declared.frame.TellFields.{TellFields}
use Rattle.tap_rule.specs.Sent.{IsAmong}
use Rattle.tap_safety.specs.AtRest.{AreMembers, system_at_rest}
use Rattle.tap_safety.specs.Frames.{tell_body}
use Rattle.tap_safety.specs.Move.{Move, may_move}
use Rattle.tap_safety.specs.Moved.{moved}
use Rattle.tap_safety.specs.System.{CoversAt, System, IsUnderWay}
use Rattle.tap_safety_moves.specs.SoundMoves.{after_moves, may_run}
use Rattle.tap_safety_moves.specs.Sound.{Sound}
use Rattle.tap_cast_runs.specs.SlotAnswers.{Answer, FirstCover, IsOwnOrPrimary, WatchMemory, had_primary, none_answered}
use Rattle.tap_cast_runs.specs.Recalled.{watch_recalled}

-- this slot of the joiner was answered by one of these nodes, by itself or by its primary
pub record IsAnswered (r : WatchMemory) (joiner : List ℕ) (slot : Slot) (chain : List (List ℕ)) : Type 0 where
  pub answer : Answer
  pub among : IsAmong answer r.answers
  pub joiner_is : answer.joiner ≡ joiner
  pub slot_is : answer.slot ≡ slot
  pub by : IsAmong answer.answerer chain
  pub own_or_primary : IsOwnOrPrimary answer

-- x covered b a first time
pub record CoveredFirst (r : WatchMemory) (x b : List ℕ) : Type 0 where
  pub cover : FirstCover
  pub among : IsAmong cover r.covers
  pub node_is : cover.table.owner ≡ x
  pub joiner_is : cover.joiner ≡ b

-- What is said of watch lists. Each slot that a joiner waits for is in the watch of each Tell of it that is under way, or was answered by a
-- node on the chain of its session; and no other slot is in that watch. A slot is answered with a name that fits it. At each first cover each
-- such slot in which the node had a primary was answered by a node on the chain that led to it. And whoever covers a joiner had a first cover.
pub record WatchesAreSound (p : SettingsValue) (s : System) (r : WatchMemory) : Type 0 where
  pub tells : (from to : List ℕ) (tell : TellFields) (watch : List Slot) → IsUnderWay s from to (tell_body tell watch)
      → (slot : Slot) → IsWatched p tell.joiner tell.prefix slot
      → Contains watch slot ⊎ IsAnswered r tell.joiner slot (r.chain from tell.session)
  pub waits : (from to : List ℕ) (tell : TellFields) (watch : List Slot) → IsUnderWay s from to (tell_body tell watch)
      → (slot : Slot) → Contains watch slot → IsWatched p tell.joiner tell.prefix slot
  pub fits : (answer : Answer) → IsAmong answer r.answers → Fits answer.joiner answer.named answer.slot
  pub covers : (cover : FirstCover) → IsAmong cover r.covers → (slot : Slot) → IsWatched p cover.joiner cover.prefix slot
      → had_primary cover slot ≡ true → IsAnswered r cover.joiner slot cover.chain
  pub first : (x b : List ℕ) (level : ℕ) → CoversAt s x b level → CoveredFirst r x b

-- members at rest have it, and nothing was answered
abbrev pub WatchesAtRest : Type 0
WatchesAtRest = (p : SettingsValue) (members : List (List ℕ)) → AreMembers p members
    → WatchesAreSound p (system_at_rest p members) none_answered

-- each possible move keeps it, if the whole invariant of joins holds before
abbrev pub MoveKeepsWatches : Type 0
MoveKeepsWatches = (p : SettingsValue) (s : System) (r : WatchMemory) (move : Move) → may_move p s move → Sound p s
    → WatchesAreSound p s r → WatchesAreSound p (moved p s move) (watch_recalled s r move)

-- ---- runs

-- what is remembered after these moves, one after another
abbrev pub watch_recalled_moves : SettingsValue → System → WatchMemory → List Move → WatchMemory
watch_recalled_moves p s r [] = r
watch_recalled_moves p s r (move ∷ moves) = watch_recalled_moves p (moved p s move) (watch_recalled s r move) moves

-- So it holds at each moment of each run from members at rest.
abbrev pub RunWatchesAreSound : Type 0
RunWatchesAreSound = (p : SettingsValue) (members : List (List ℕ)) (moves : List Move) → AreMembers p members
    → may_run p (system_at_rest p members) moves → WatchesAreSound p (after_moves p (system_at_rest p members) moves)
    (watch_recalled_moves p (system_at_rest p members) none_answered moves)
