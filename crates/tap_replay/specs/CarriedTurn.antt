-- What a turn of a carried run answers, and what its log is then.
--
-- Rule: docs/FORMATS.md, "What comes next" and "The ways a run ends".
use Rattle.std.specs.Prelude.{nat_le, if◌then◌else◌, List, [], ◌∷◌, ◌++◌, take, Option, None, Some}
use Rattle.tap_scenario.specs.Scenario.{ScenarioValue}
use Rattle.tap_log.specs.declared.record.Record.{Record}
use Rattle.tap_log.specs.declared.record.Record.TheVariants.{Spent as SpentRecord}
use Rattle.tap_log.specs.Counts.{sent_count}
use Rattle.tap_lawful.specs.CarriedNext.{carried_next_group}
use Rattle.tap_replay.specs.declared.end.End.TheVariants.{Spent}
use Rattle.tap_replay.specs.declared.end.Turned.TheVariants.{Over}
use Rattle.tap_replay.specs.Turn.{TurnOutcome, unless_finished}

-- the group is added, unless more frames would then be sent than may be: then its first record alone
abbrev pub unless_carried_spent : ScenarioValue → List Record → List Record → TurnOutcome
unless_carried_spent s log group =
    if nat_le (sent_count (log ++ group)) s.frames then unless_finished s (log ++ group) (carried_next_group s (log ++ group))
    else record { answer = Over Spent; log = log ++ (take 1 group ++ SpentRecord s.frames ∷ []) }

-- the group that comes next is added, if one does
abbrev pub carried_outcome_by : ScenarioValue → List Record → Option (List Record) → TurnOutcome
carried_outcome_by s log (Some group) = unless_carried_spent s log group
carried_outcome_by s log None = unless_finished s log None

abbrev pub carried_turn_outcome : ScenarioValue → List Record → TurnOutcome
carried_turn_outcome s log = carried_outcome_by s log (carried_next_group s log)
