-- The logs of the carried runs of a scenario, however far they have come.
--
-- Rule: docs/FORMATS.md, "What comes next" and "The ways a run ends".
use Rattle.std.specs.Prelude.{◌≡◌, ◌⊎◌, ℕ, ◌<◌, ◌≤◌, true, false, List, [], ◌∷◌, ◌++◌, length, take, None, Some}
use Rattle.tap_scenario.specs.Scenario.{IsScript, ScenarioValue}
use Rattle.tap_log.specs.declared.record.Record.{Record}
use Rattle.tap_log.specs.declared.record.Record.TheVariants.{Spent, Finished}
use Rattle.tap_log.specs.Counts.{sent_count}
use Rattle.tap_history.specs.Groups.{EachGroup, beginning_of, is_ended}
use Rattle.tap_carried.specs.LogTurns.{beginning_records}
use Rattle.tap_lawful.specs.CarriedNext.{carried_next_group}
use Rattle.tap_lawful.specs.Next.{beginning_in}

-- the scenario is carried
pub record IsCarriedScript (s : ScenarioValue) : Type 0 where
  pub valid : IsScript s
  pub carried : s.carrier ≡ true

-- the group is the one that comes next
abbrev pub CarriedComesNext : ScenarioValue → List Record → List Record → Type 0
CarriedComesNext s before group = carried_next_group s before ≡ Some group

-- The log of a carried run that isn't over: it begins as the scenario does, each of its groups is the one that comes next, and no more
-- frames were sent than may be.
pub record IsCarriedPlayed (s : ScenarioValue) (log : List Record) : Type 0 where
  pub begins : beginning_of log ≡ beginning_records true (beginning_in s)
  pub each : EachGroup (CarriedComesNext s) log
  pub within : sent_count log ≤ s.frames
  pub going : is_ended log ≡ false

-- ---- how a run ends

-- no group comes next, so all steps were run: the log says how many
pub record IsCarriedFinished (s : ScenarioValue) (played log : List Record) : Type 0 where
  pub none : carried_next_group s played ≡ None
  pub log_is : log ≡ played ++ Finished (length s.steps) ∷ []

-- With the group that comes next more frames would be sent than may be. The first record of the group stands, which is a step or the
-- arrival of a packet, and the log says how many frames may be sent.
pub record IsCarriedSpent (s : ScenarioValue) (played log : List Record) : Type 0 where
  pub group : List Record
  pub next : carried_next_group s played ≡ Some group
  pub over : s.frames < sent_count (played ++ group)
  pub log_is : log ≡ played ++ (take 1 group ++ Spent s.frames ∷ [])

-- the run is over, since all steps were run or too many frames would be sent
abbrev pub IsCarriedOver : ScenarioValue → List Record → List Record → Type 0
IsCarriedOver s played log = IsCarriedFinished s played log ⊎ IsCarriedSpent s played log

-- Memory ran out within the group that comes next: some of its records stand, and not all; if the group would send too many frames, the
-- first one alone. The end of such a log is no moment.
pub record IsCarriedCut (s : ScenarioValue) (played log : List Record) : Type 0 where
  pub group : List Record
  pub next : carried_next_group s played ≡ Some group
  pub kept : ℕ
  pub some : 1 ≤ kept
  pub few : kept < length group
  pub first : s.frames < sent_count (played ++ group) → kept ≡ 1
  pub log_is : log ≡ played ++ take kept group

-- The log of a carried run of a scenario: that of one which isn't over, or which ended early for want of memory, at the end of a group or
-- within one; or that of one which is over.
pub record IsCarriedLogOf (s : ScenarioValue) (log : List Record) : Type 0 where
  pub played : List Record
  pub is_played : IsCarriedPlayed s played
  pub ending : (log ≡ played) ⊎ (IsCarriedOver s played log ⊎ IsCarriedCut s played log)

-- the whole log of a carried run
pub record IsWholeCarriedLogOf (s : ScenarioValue) (log : List Record) : Type 0 where
  pub played : List Record
  pub is_played : IsCarriedPlayed s played
  pub over : IsCarriedOver s played log
