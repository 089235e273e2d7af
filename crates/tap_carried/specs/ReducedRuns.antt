-- Runs, carried or not: which turn may follow, and that the reduced log is the course of a run.
--
-- Rule: docs/FORMATS.md, "The course of a run".
use Rattle.std.specs.Prelude.{◌≡◌, ℕ, Bool, true, false, List, [], ◌∷◌, ◌++◌, take}
use Rattle.tap_log.specs.declared.record.Record.{Record}
use Rattle.tap_log.specs.Reduced.{reduced}
use Rattle.tap_history.specs.Groups.{is_ended}
use Rattle.tap_history.specs.Moments.{is_moment}
use Rattle.tap_runs.specs.Beginning.{Beginning, IsWithinLimits}
use Rattle.tap_runs.specs.Course.{Follows, IsCourse}
use Rattle.tap_runs.specs.Named.{HasNames, HaveNames}
use Rattle.tap_carried.specs.LogTurns.{HasAddedRecords, IsLogOfTurns, Turn, beginning_records, group_of_turn, log_after_turns, reduced_group}
use Rattle.tap_carried.specs.LogTurns.Turn.{Steps, Takes}

-- What becomes of the turn in the reduced log may follow that, and its step has names of the settings.
abbrev pub ReducedFollows : Beginning → List Record → Turn → Type 0
ReducedFollows b log (Steps index step items added) =
    Follows b (reduced log) (reduced_group (Steps index step items added)) × HasNames b.settings step
ReducedFollows b log (Takes packet frame items added) = Follows b (reduced log) (reduced_group (Takes packet frame items added))
ReducedFollows b log other = Unit {0}

-- The turn may follow the log: what becomes of it may follow the reduced log, and nothing is asked of the rest of it but to be added.
abbrev pub TurnFollows : Bool → Beginning → List Record → Turn → Type 0
TurnFollows carried b log turn = ReducedFollows b log turn × HasAddedRecords carried turn

-- each of these turns may follow the log and the turns before it
abbrev pub TurnsFollow : Bool → Beginning → List Record → List Turn → Type 0
TurnsFollow carried b log [] = Unit {0}
TurnsFollow carried b log (turn ∷ turns) = TurnFollows carried b log turn × TurnsFollow carried b (log ++ group_of_turn carried turn) turns

-- a run, carried or not, as far as its log has come: it begins within the limits, and each turn may follow
pub record IsRunOfTurns (carried : Bool) (b : Beginning) (log : List Record) : Type 0 where
  pub limits : IsWithinLimits b
  pub turns : List Turn
  pub follow : TurnsFollow carried b (beginning_records carried b) turns
  pub is : log ≡ log_after_turns carried (beginning_records carried b) turns

-- the reduced log is that of a run: a course that hasn't ended, whose steps have names of the settings
pub record ReducesToRun (b : Beginning) (log : List Record) : Type 0 where
  pub course : IsCourse b (reduced log)
  pub going : is_ended (reduced log) ≡ false
  pub steps : HaveNames b.settings (reduced log)

-- The log of such a run is one of turns, so that it and its reduced log agree. Its reduced log is that of a run, and so it is at each of its
-- moments.
pub record RunsReduce : Type 0 where
  pub turns : (carried : Bool) (b : Beginning) (log : List Record) → IsRunOfTurns carried b log → IsLogOfTurns carried log
  pub run : (carried : Bool) (b : Beginning) (log : List Record) → IsRunOfTurns carried b log → ReducesToRun b log
  pub at : (carried : Bool) (b : Beginning) (log : List Record) (m : ℕ) → IsRunOfTurns carried b log → is_moment log m ≡ true
      → ReducesToRun b (take m log)
