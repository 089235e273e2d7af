-- Runs, and that the whole invariant holds of the system that each has come to.
--
-- Rule: docs/FORMATS.md, "The course of a run".
use Rattle.std.specs.Prelude.{◌≡◌, ℕ, false, true, List, [], ◌∷◌, ◌++◌, take}
use Rattle.tap_log.specs.declared.record.Record.{Record}
use Rattle.tap_history.specs.Groups.{is_ended}
use Rattle.tap_history.specs.Moments.{is_moment}
use Rattle.tap_runs.specs.Beginning.{Beginning, IsWithinLimits, begin_record}
use Rattle.tap_runs.specs.Named.{HaveNames}
use Rattle.tap_runs.specs.Course.{Follows, IsCourse, system_of}
use Rattle.tap_safety_moves.specs.Sound.{Sound}

-- a run, as far as its log has come: a course that hasn't ended, whose steps have names of the settings
pub record IsRun (b : Beginning) (log : List Record) : Type 0 where
  pub course : IsCourse b log
  pub going : is_ended log ≡ false
  pub steps : HaveNames b.settings log

-- A beginning within the limits is a run. With one more group that may follow, whose steps have names of the settings, it is one again, and at
-- each of its moments it is one.
pub record RunsGrow : Type 0 where
  pub begins : (b : Beginning) → IsWithinLimits b → IsRun b (begin_record b ∷ [])
  pub more : (b : Beginning) (log group : List Record) → IsRun b log → Follows b log group → HaveNames b.settings group
      → IsRun b (log ++ group)
  pub moments : (b : Beginning) (log : List Record) (m : ℕ) → IsRun b log → is_moment log m ≡ true → IsRun b (take m log)

-- the system that it has come to has the whole invariant
abbrev pub RunsAreSound : Type 0
RunsAreSound = (b : Beginning) (log : List Record) → IsRun b log → Sound b.settings (system_of log)
