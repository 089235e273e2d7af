-- The casts of a run: what is remembered of them, as its log has come to it.
--
-- Rule: docs/FORMATS.md, "The course of a run".
use Rattle.std.specs.Prelude.{◌≡◌, ℕ, ◌≤◌, true, List, [], ◌∷◌, ◌++◌, Option, None, Some}
use Rattle.tap_name.specs.Settings.{SettingsValue}
use Rattle.tap_log.specs.declared.record.Record.{Record}
use Rattle.tap_log.specs.declared.record.Record.TheVariants.{Begin}
use Rattle.tap_log.specs.Counts.{cast_count}
use Rattle.tap_history.specs.Groups.{beginning_of, groups_of}
use Rattle.tap_history.specs.Moments.{is_rest}
use Rattle.tap_safety.specs.AtRest.{system_at_rest}
use Rattle.tap_safety.specs.Move.{Move}
use Rattle.tap_safety.specs.System.{System}
use Rattle.tap_runs.specs.Beginning.{Beginning}
use Rattle.tap_runs.specs.Course.{move_of_group, moved_by, system_of}
use Rattle.tap_safe_runs.specs.Safe.{IsRun}
use Rattle.tap_cast_moves.specs.Audience.{CastsAreSound}
use Rattle.tap_cast_moves.specs.Recalled.{recalled}
use Rattle.tap_cast_moves.specs.Remembered.{CastMemory, CastRun, no_casts}
use Rattle.tap_cast_moves.specs.CastSessions.{CastsAreQuiet, NoCastGoesOn}

-- what is remembered after a move, if there is one
abbrev pub recalled_by : SettingsValue → System → CastMemory → Option Move → CastMemory
recalled_by p s r None = r
recalled_by p s r (Some move) = recalled p s r move

-- and after these groups, which follow this log, this system and what is remembered then
abbrev pub casts_after : SettingsValue → List Record → System → CastMemory → List (List Record) → CastMemory
casts_after p before s r [] = r
casts_after p before s r (group ∷ groups) =
    casts_after p (before ++ group) (moved_by p s (move_of_group before group)) (recalled_by p s r (move_of_group before group)) groups

-- after the beginning and these groups
unfoldable pub casts_from : List Record → List (List Record) → CastMemory
casts_from (Begin settings frames members ∷ []) groups =
    casts_after settings (Begin settings frames members ∷ []) (system_at_rest settings members) no_casts groups
casts_from other groups = no_casts

-- what is remembered of casts once a log has come so far
abbrev pub casts_of : List Record → CastMemory
casts_of log = casts_from (beginning_of log) (groups_of log)

-- casts are numbered by those that the log has begun
pub record AreNumberedCasts (log : List Record) : Type 0 where
  pub most : (cast : ℕ) (run : CastRun) → (casts_of log).cast cast ≡ Some run → cast ≤ cast_count log

-- What is said of casts holds of each run: of the system that its log has come to, and of what is remembered then.
abbrev pub RunCastsAreKept : Type 0
RunCastsAreKept = (b : Beginning) (log : List Record) → IsRun b log → CastsAreSound b.settings (system_of log) (casts_of log)

-- and no cast has a number above how many the log has begun
abbrev pub RunCastsAreNumbered : Type 0
RunCastsAreNumbered = (b : Beginning) (log : List Record) → IsRun b log → AreNumberedCasts log

-- while a node departs, no cast goes on
abbrev pub RunCastsAreQuiet : Type 0
RunCastsAreQuiet = (b : Beginning) (log : List Record) → IsRun b log → CastsAreQuiet (system_of log) (casts_of log)

-- at rest no session of casts is open, and each cast is closed
abbrev pub RestHasNoCasts : Type 0
RestHasNoCasts = (b : Beginning) (log : List Record) → IsRun b log → is_rest log ≡ true → NoCastGoesOn (casts_of log)
