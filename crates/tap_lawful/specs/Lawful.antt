-- The logs of the runs of a scenario that isn't carried, however far they have come.
--
-- Rule: docs/FORMATS.md, "What comes next" and "The ways a run ends".
use Rattle.std.specs.Prelude.{◌≡◌, ◌⊎◌, ◌<◌, ◌≤◌, false, List, [], ◌∷◌, ◌++◌, length, Option, None, Some}
use Rattle.tap_scenario.specs.Scenario.{ScenarioValue}
use Rattle.tap_log.specs.declared.record.Record.{Record}
use Rattle.tap_log.specs.declared.record.Record.TheVariants.{Step as StepRecord, Spent, Finished}
use Rattle.tap_log.specs.Counts.{sent_count}
use Rattle.tap_history.specs.Groups.{EachGroup, beginning_of, is_ended}
use Rattle.tap_runs.specs.Beginning.{begin_record}
use Rattle.tap_lawful.specs.Next.{beginning_in, next_group, uncarried_next_group}

-- ---- by what comes next

-- the group that comes next after a log, if one does
abbrev pub NextGroup : Type 0
NextGroup = List Record → Option (List Record)

-- The log of a run that isn't over: it begins as the scenario does, each of its groups is the one that comes next, and no more
-- frames were sent than may be.
pub record IsPlayedWith (coming : NextGroup) (s : ScenarioValue) (log : List Record) : Type 0 where
  pub begins : beginning_of log ≡ begin_record (beginning_in s) ∷ []
  pub each : EachGroup (λ before group. coming before ≡ Some group) log
  pub within : sent_count log ≤ s.frames
  pub going : is_ended log ≡ false

-- no group comes next, so all steps were run: the log says how many
pub record IsFinishedWith (coming : NextGroup) (s : ScenarioValue) (played log : List Record) : Type 0 where
  pub none : coming played ≡ None
  pub log_is : log ≡ played ++ Finished (length s.steps) ∷ []

-- what stands of a group that would send too many frames: of a step's the step, and of a taken frame's nothing
unfoldable pub step_alone : List Record → List Record
step_alone (StepRecord index step ∷ items) = StepRecord index step ∷ []
step_alone other = []

-- with the group that comes next more frames would be sent than may be: the log says how many may be
pub record IsSpentWith (coming : NextGroup) (s : ScenarioValue) (played log : List Record) : Type 0 where
  pub group : List Record
  pub next : coming played ≡ Some group
  pub over : s.frames < sent_count (played ++ group)
  pub log_is : log ≡ played ++ (step_alone group ++ Spent s.frames ∷ [])

-- the run is over, since all steps were run or too many frames would be sent
abbrev pub IsOverWith : NextGroup → ScenarioValue → List Record → List Record → Type 0
IsOverWith coming s played log = IsFinishedWith coming s played log ⊎ IsSpentWith coming s played log

-- The log of a run of a scenario: that of one which isn't over, or which ended early for want of memory; or that of one which is over.
pub record IsLogWith (coming : NextGroup) (s : ScenarioValue) (log : List Record) : Type 0 where
  pub played : List Record
  pub is_played : IsPlayedWith coming s played
  pub ending : (log ≡ played) ⊎ IsOverWith coming s played log

-- the whole log of a run
pub record IsWholeLogWith (coming : NextGroup) (s : ScenarioValue) (log : List Record) : Type 0 where
  pub played : List Record
  pub is_played : IsPlayedWith coming s played
  pub over : IsOverWith coming s played log

-- ---- without the roots of salted names: each of these of reduced logs

-- the group is the one that comes next
abbrev pub ComesNext : ScenarioValue → List Record → List Record → Type 0
ComesNext s before group = next_group s before ≡ Some group

abbrev pub IsPlayed : ScenarioValue → List Record → Type 0
IsPlayed s log = IsPlayedWith (next_group s) s log

abbrev pub IsFinished : ScenarioValue → List Record → List Record → Type 0
IsFinished s played log = IsFinishedWith (next_group s) s played log

abbrev pub IsSpent : ScenarioValue → List Record → List Record → Type 0
IsSpent s played log = IsSpentWith (next_group s) s played log

abbrev pub IsOver : ScenarioValue → List Record → List Record → Type 0
IsOver s played log = IsOverWith (next_group s) s played log

abbrev pub IsLogOf : ScenarioValue → List Record → Type 0
IsLogOf s log = IsLogWith (next_group s) s log

abbrev pub IsWholeLogOf : ScenarioValue → List Record → Type 0
IsWholeLogOf s log = IsWholeLogWith (next_group s) s log

-- ---- with them: each of these of whole logs

-- the group, with the roots that it tells, is the one that comes next
abbrev pub UncarriedComesNext : ScenarioValue → List Record → List Record → Type 0
UncarriedComesNext s before group = uncarried_next_group s before ≡ Some group

abbrev pub IsUncarriedPlayed : ScenarioValue → List Record → Type 0
IsUncarriedPlayed s log = IsPlayedWith (uncarried_next_group s) s log

abbrev pub IsUncarriedFinished : ScenarioValue → List Record → List Record → Type 0
IsUncarriedFinished s played log = IsFinishedWith (uncarried_next_group s) s played log

abbrev pub IsUncarriedSpent : ScenarioValue → List Record → List Record → Type 0
IsUncarriedSpent s played log = IsSpentWith (uncarried_next_group s) s played log

abbrev pub IsUncarriedLogOf : ScenarioValue → List Record → Type 0
IsUncarriedLogOf s log = IsLogWith (uncarried_next_group s) s log

abbrev pub IsWholeUncarriedLogOf : ScenarioValue → List Record → Type 0
IsWholeUncarriedLogOf s log = IsWholeLogWith (uncarried_next_group s) s log
