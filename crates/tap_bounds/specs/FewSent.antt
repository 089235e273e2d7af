-- The laws of the frames of joins: what is said of them is so of members at rest, is kept by each possible move, and so holds at each moment
-- of a run.
use Rattle.std.specs.Prelude.{ℕ, List, [], ◌∷◌}
use Rattle.tap_name.specs.Settings.{SettingsValue}
use Rattle.tap_safety.specs.AtRest.{AreMembers, system_at_rest}
use Rattle.tap_safety.specs.Move.{Move, may_move}
use Rattle.tap_safety.specs.Moved.{moved}
use Rattle.tap_safety.specs.System.{System}
use Rattle.tap_safety_moves.specs.SoundMoves.{after_moves, may_run}
use Rattle.tap_safety_moves.specs.Sound.{Sound}
use Rattle.tap_bounds.specs.Few.{FewAreSent}
use Rattle.tap_bounds.specs.Traffic.{Traffic, no_traffic, traffic_after}

-- the members with which an overlay begins have sent nothing
abbrev pub FewAtRest : Type 0
FewAtRest = (p : SettingsValue) (members : List (List ℕ)) → AreMembers p members → FewAreSent p (system_at_rest p members) no_traffic

-- each possible move keeps what is said of the frames of joins, if the whole invariant holds before it
abbrev pub MoveKeepsFew : Type 0
MoveKeepsFew = (p : SettingsValue) (s : System) (r : Traffic) (move : Move) → may_move p s move → Sound p s → FewAreSent p s r
    → FewAreSent p (moved p s move) (traffic_after p s r move)

-- ---- runs

-- what is remembered of the frames after these moves, one after another
abbrev pub traffic_of : SettingsValue → System → Traffic → List Move → Traffic
traffic_of p s r [] = r
traffic_of p s r (move ∷ moves) = traffic_of p (moved p s move) (traffic_after p s r move) moves

-- So it holds at each moment of each run from members at rest.
abbrev pub RunSendsFew : Type 0
RunSendsFew = (p : SettingsValue) (members : List (List ℕ)) (moves : List Move) → AreMembers p members
    → may_run p (system_at_rest p members) moves
    → FewAreSent p (after_moves p (system_at_rest p members) moves) (traffic_of p (system_at_rest p members) no_traffic moves)
