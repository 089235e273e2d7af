-- Pointers stand at rest, and after each possible move.
use Rattle.std.specs.Prelude.{ℕ, List}
use Rattle.tap_name.specs.Settings.{SettingsValue}
use Rattle.tap_safety.specs.AtRest.{AreMembers, system_at_rest}
use Rattle.tap_safety.specs.Move.{Move, may_move}
use Rattle.tap_safety.specs.Moved.{moved}
use Rattle.tap_safety.specs.System.{System}
use Rattle.tap_safety_moves.specs.SoundMoves.{after_moves, may_run}
use Rattle.tap_safety_moves.specs.Sound.{Sound}
use Rattle.tap_pointer_moves.specs.LaysTold.{PointersStand}

-- the members with which an overlay begins have no pointers
abbrev pub PointersAtRest : Type 0
PointersAtRest = (p : SettingsValue) (members : List (List ℕ)) → AreMembers p members → PointersStand (system_at_rest p members)

-- if the whole invariant of joins holds, and pointers stand, they stand after each possible move
abbrev pub PointersKept : Type 0
PointersKept = (p : SettingsValue) (s : System) (move : Move) → may_move p s move → Sound p s → PointersStand s
    → PointersStand (moved p s move)

-- so they stand at each moment of each run from members at rest
abbrev pub PointersStandInRuns : Type 0
PointersStandInRuns = (p : SettingsValue) (members : List (List ℕ)) (moves : List Move) → AreMembers p members
    → may_run p (system_at_rest p members) moves → PointersStand (after_moves p (system_at_rest p members) moves)
