-- What a turn of a player answers, and what its whole log is then.
--
-- Rule: docs/FORMATS.md, "What comes next" and "The ways a run ends".
use Rattle.std.specs.Prelude.{nat_le, if◌then◌else◌, List, [], ◌∷◌, ◌++◌, length, Option, None, Some}
use Rattle.tap_scenario.specs.Scenario.{ScenarioValue}
use Rattle.tap_log.specs.declared.record.Record.{Record}
use Rattle.tap_log.specs.declared.record.Record.TheVariants.{Spent as SpentRecord, Finished}
use Rattle.tap_log.specs.Counts.{sent_count}
use Rattle.tap_lawful.specs.Next.{uncarried_next_group}
use Rattle.tap_lawful.specs.Lawful.{step_alone}
use Rattle.tap_replay.specs.declared.end.End.TheVariants.{Done, Spent}
use Rattle.tap_replay.specs.declared.end.Turned.{Turned}
use Rattle.tap_replay.specs.declared.end.Turned.TheVariants.{More, Over}

-- the answer of a turn, and the log after it
pub record TurnOutcome : Type 0 where
  pub answer : Turned
  pub log : List Record

-- if a group comes next, something is left; if none does, the run is over, and the log says so
abbrev pub unless_finished : ScenarioValue → List Record → Option (List Record) → TurnOutcome
unless_finished s log (Some group) = record { answer = More; log = log }
unless_finished s log None = record { answer = Over Done; log = log ++ Finished (length s.steps) ∷ [] }

-- the group is added, unless more frames would then be sent than may be
abbrev pub unless_spent : ScenarioValue → List Record → List Record → TurnOutcome
unless_spent s log group =
    if nat_le (sent_count (log ++ group)) s.frames then unless_finished s (log ++ group) (uncarried_next_group s (log ++ group))
    else record { answer = Over Spent; log = log ++ (step_alone group ++ SpentRecord s.frames ∷ []) }

-- the group that comes next is added, if one does
abbrev pub outcome_by : ScenarioValue → List Record → Option (List Record) → TurnOutcome
outcome_by s log (Some group) = unless_spent s log group
outcome_by s log None = unless_finished s log None

abbrev pub turn_outcome : ScenarioValue → List Record → TurnOutcome
turn_outcome s log = outcome_by s log (uncarried_next_group s log)
