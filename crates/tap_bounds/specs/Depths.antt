-- How deep the sessions of joins are, and the Tells.
use Rattle.std.specs.Prelude.{ℕ, ◌<◌, ◌≤◌, List}
use Rattle.tap_name.specs.Settings.{SettingsValue}
use Rattle.tap_name.specs.declared.slot.Slot.{Slot}
use Rattle.tap_wire.specs.declared.frame.TellFields.{TellFields}
use Rattle.tap_safety.specs.AtRest.{AreMembers, system_at_rest}
use Rattle.tap_safety.specs.Frames.{tell_body}
use Rattle.tap_safety.specs.Move.{Move}
use Rattle.tap_safety.specs.Remembered.{OpenSession}
use Rattle.tap_safety.specs.Sessions.{IsOpen}
use Rattle.tap_safety.specs.System.{System, IsUnderWay}
use Rattle.tap_moves.specs.FewMoves.{most_open}
use Rattle.tap_safety_moves.specs.SoundMoves.{after_moves, may_run}
use Rattle.tap_safety_moves.specs.Sound.{Sound}

-- each open session has a depth below 10,752, which is 42 sessions at each of 256 nodes, and no Tell under way has a greater one
pub record AreNotDeep (s : System) : Type 0 where
  pub sessions : (x : List ℕ) (k : ℕ) (session : OpenSession) → IsOpen s x k session → session.depth < most_open
  pub tells : (from to : List ℕ) (fields : TellFields) (watch : List Slot) → IsUnderWay s from to (tell_body fields watch)
      → fields.depth ≤ most_open

-- so it is if the whole invariant holds
abbrev pub SoundIsNotDeep : Type 0
SoundIsNotDeep = (p : SettingsValue) (s : System) → Sound p s → AreNotDeep s

-- and so at each moment of each run from members at rest
abbrev pub RunIsNotDeep : Type 0
RunIsNotDeep = (p : SettingsValue) (members : List (List ℕ)) (moves : List Move) → AreMembers p members
    → may_run p (system_at_rest p members) moves → AreNotDeep (after_moves p (system_at_rest p members) moves)
