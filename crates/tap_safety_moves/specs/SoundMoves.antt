-- The one law of the invariant: each possible move keeps it; and its basis is kept from itself alone outside departures.
use Rattle.std.specs.Prelude.{ℕ, List, [], ◌∷◌}
use Rattle.tap_name.specs.Settings.{SettingsValue}
use Rattle.tap_wire.specs.declared.frame.Frame.{Frame}
use Rattle.tap_safety.specs.AtRest.{AreMembers, system_at_rest}
use Rattle.tap_safety.specs.Move.{Move, may_move}
use Rattle.tap_safety.specs.Move.Move.{Begins, Delivers}
use Rattle.tap_safety.specs.Moved.{moved}
use Rattle.tap_safety.specs.Notices.{IsNotice}
use Rattle.tap_safety.specs.System.{System, AmongFrames}
use Rattle.tap_moves.specs.Starts.{IsNoDeparture}
use Rattle.tap_safety_moves.specs.Sound.{Sound, SoundBasis}

-- the whole invariant holds after a possible move, if it held before
abbrev pub MoveKeeps : Type 0
MoveKeeps = (p : SettingsValue) (s : System) (move : Move) → may_move p s move → Sound p s → Sound p (moved p s move)

-- a move outside departures: neither the start of one, nor the delivery of one of its notices
abbrev pub IsOutsideDepartures : System → Move → Type 0
IsOutsideDepartures s (Begins x start) = IsNoDeparture start
IsOutsideDepartures s (Delivers number) = (frame : Frame) → AmongFrames number frame s.frames → IsNotice frame.body → ⊥

-- the basis holds after a possible move outside departures, if it held before, whether or not tables have holes
abbrev pub BasisKeeps : Type 0
BasisKeeps = (p : SettingsValue) (s : System) (move : Move) → may_move p s move → IsOutsideDepartures s move → SoundBasis p s
    → SoundBasis p (moved p s move)

-- ---- runs

-- the system after these moves, one after another
abbrev pub after_moves : SettingsValue → System → List Move → System
after_moves p s [] = s
after_moves p s (move ∷ moves) = after_moves p (moved p s move) moves

-- each of the moves is possible after those before it
abbrev pub may_run : SettingsValue → System → List Move → Type 0
may_run p s [] = Unit {0}
may_run p s (move ∷ moves) = may_move p s move × may_run p (moved p s move) moves

-- So the whole invariant holds at each moment of each run from members at rest.
abbrev pub RunIsSound : Type 0
RunIsSound = (p : SettingsValue) (members : List (List ℕ)) (moves : List Move) → AreMembers p members
    → may_run p (system_at_rest p members) moves → Sound p (after_moves p (system_at_rest p members) moves)
