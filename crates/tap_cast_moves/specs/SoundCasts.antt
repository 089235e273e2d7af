-- The laws of casts: what is said of them is so of members at rest, is kept by each possible move, and so holds at each moment of a run.
use Rattle.std.specs.Prelude.{◌≡◌, ℕ, List, [], ◌∷◌, None}
use Rattle.tap_name.specs.Settings.{SettingsValue}
use Rattle.tap_rule.specs.Event.Start.{Cast}
use Rattle.tap_safety.specs.AtRest.{AreMembers, system_at_rest}
use Rattle.tap_safety.specs.Move.{Move, may_move}
use Rattle.tap_safety.specs.Move.Move.{Begins}
use Rattle.tap_safety.specs.Moved.{moved}
use Rattle.tap_safety.specs.System.{System}
use Rattle.tap_safety_moves.specs.SoundMoves.{after_moves, may_run}
use Rattle.tap_safety_moves.specs.Sound.{Sound}
use Rattle.tap_cast_moves.specs.Audience.{CastsAreSound}
use Rattle.tap_cast_moves.specs.Recalled.{recalled}
use Rattle.tap_cast_moves.specs.Remembered.{CastMemory, no_casts}
use Rattle.tap_cast_moves.specs.CastSessions.{CastsAreQuiet, NoCastGoesOn}

-- a cast that starts has a number that none had before
abbrev pub IsNewCast : CastMemory → Move → Type 0
IsNewCast r (Begins x (Cast cast level word)) = r.cast cast ≡ None
IsNewCast r other = Unit {0}

-- the members with which an overlay begins have started no cast
abbrev pub CastsAtRest : Type 0
CastsAtRest = (p : SettingsValue) (members : List (List ℕ)) → AreMembers p members → CastsAreSound p (system_at_rest p members) no_casts

-- each possible move keeps what is said of casts, if the whole invariant of joins holds before it
abbrev pub MoveKeepsCasts : Type 0
MoveKeepsCasts = (p : SettingsValue) (s : System) (r : CastMemory) (move : Move) → may_move p s move → IsNewCast r move → Sound p s
    → CastsAreSound p s r → CastsAreSound p (moved p s move) (recalled p s r move)

-- while a node departs no cast goes on
abbrev pub CastsQuietly : Type 0
CastsQuietly = (p : SettingsValue) (s : System) (r : CastMemory) → Sound p s → CastsAreSound p s r → CastsAreQuiet s r

-- while no frame is under way each cast is closed
abbrev pub RestClosesCasts : Type 0
RestClosesCasts = (p : SettingsValue) (s : System) (r : CastMemory) → CastsAreSound p s r → s.frames ≡ [] → NoCastGoesOn r

-- ---- runs

-- what is remembered of casts after these moves, one after another
abbrev pub recalled_moves : SettingsValue → System → CastMemory → List Move → CastMemory
recalled_moves p s r [] = r
recalled_moves p s r (move ∷ moves) = recalled_moves p (moved p s move) (recalled p s r move) moves

-- each cast that starts has a new number
abbrev pub AreNewCasts : SettingsValue → System → CastMemory → List Move → Type 0
AreNewCasts p s r [] = Unit {0}
AreNewCasts p s r (move ∷ moves) = IsNewCast r move × AreNewCasts p (moved p s move) (recalled p s r move) moves

-- So it holds at each moment of each run from members at rest.
abbrev pub RunCastsAreSound : Type 0
RunCastsAreSound = (p : SettingsValue) (members : List (List ℕ)) (moves : List Move) → AreMembers p members
    → may_run p (system_at_rest p members) moves → AreNewCasts p (system_at_rest p members) no_casts moves
    → CastsAreSound p (after_moves p (system_at_rest p members) moves) (recalled_moves p (system_at_rest p members) no_casts moves)
