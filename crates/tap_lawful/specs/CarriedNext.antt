-- Which group comes next in a carried run. Nodes act by the reduced log; choices are refused, and packets made, by the whole one.
--
-- Rule: docs/FORMATS.md, "What comes next".
use Rattle.std.specs.Prelude.{ℕ, ◌+◌, Bool, true, false, List, [], ◌∷◌, slice_get, Option, None, Some}
use Rattle.std.specs.Option.{option_map}
use Rattle.tap_name.specs.Settings.{SettingsValue}
use Rattle.tap_scenario.specs.declared.step.Step.{Step}
use Rattle.tap_scenario.specs.declared.step.Step.TheVariants.{Lose, Repeat, RootSet}
use Rattle.tap_scenario.specs.Scenario.{ScenarioValue}
use Rattle.tap_log.specs.declared.record.Record.{Record}
use Rattle.tap_log.specs.declared.record.Record.TheVariants.{Step as StepRecord, Refused}
use Rattle.tap_log.specs.declared.record.Refusal.{Refusal}
use Rattle.tap_log.specs.Reduced.{reduced}
use Rattle.tap_history.specs.Refusals.{first_refusal}
use Rattle.tap_packets.specs.Groups.{arrival_group, carried_step_group, lose_group, repeat_group, tick_group}
use Rattle.tap_packets.specs.Packets.{PacketLine, lines_under_way}
use Rattle.tap_runs.specs.Course.{is_choice, system_of}
use Rattle.tap_runs.specs.Group.{step_records, taken_records}
use Rattle.tap_lawful.specs.CarriedDue.{Due, carried_due}
use Rattle.tap_lawful.specs.CarriedDue.Due.{ArrivalDue, TickDue}
use Rattle.tap_lawful.specs.Next.{begun_count, next_step}
use Rattle.tap_lawful.specs.RootSets.{roots_record}

-- ---- the group of a step

-- what a start or an observation adds after its `Step`, and what the receiver of a frame that is taken adds after `Taken`
abbrev pub reduced_step_records : SettingsValue → List Record → ℕ → Step → List Record
reduced_step_records p log index step = step_records p (reduced log) (system_of (reduced log)) index step

abbrev pub reduced_taken_records : SettingsValue → List Record → ℕ → List Record
reduced_taken_records p log frame = taken_records p (reduced log) (system_of (reduced log)) frame

-- the group of a step that loses or repeats the packet at a place, if there is one
abbrev pub losing_group : ℕ → ℕ → Option PacketLine → List Record
losing_group index place None = StepRecord index (Lose place) ∷ []
losing_group index place (Some line) = lose_group index place line

abbrev pub repeating_group : List Record → ℕ → ℕ → Option PacketLine → List Record
repeating_group log index place None = StepRecord index (Repeat place) ∷ []
repeating_group log index place (Some line) = repeat_group log index place line

-- The group of a choice that isn't refused: the step alone, unless a packet is lost or repeated, or roots are told.
unfoldable pub choice_group : SettingsValue → List Record → ℕ → Step → List Record
choice_group p log index (Lose place) = losing_group index place (slice_get (lines_under_way log) place)
choice_group p log index (Repeat place) = repeating_group log index place (slice_get (lines_under_way log) place)
choice_group p log index (RootSet object asker) = StepRecord index (RootSet object asker) ∷ roots_record p log object asker ∷ []
choice_group p log index step = StepRecord index step ∷ []

-- the group of a step that isn't refused, by whether it is a choice
abbrev pub accepted_group : Bool → SettingsValue → List Record → ℕ → Step → List Record
accepted_group true p log index step = choice_group p log index step
accepted_group false p log index step = carried_step_group log index step (reduced_step_records p log index step)

-- the group of a step: its refusal, if it has one
abbrev pub group_unless : SettingsValue → List Record → ℕ → Step → Option Refusal → List Record
group_unless p log index step (Some refusal) = StepRecord index step ∷ Refused index refusal ∷ []
group_unless p log index step None = accepted_group (is_choice step) p log index step

abbrev pub begun_group : SettingsValue → List Record → ℕ → Step → List Record
begun_group p log index step = group_unless p log index step (first_refusal log step)

-- ---- the group that comes next

abbrev pub carried_step_next : ScenarioValue → List Record → Option (List Record)
carried_step_next s log = option_map (begun_group s.settings log (begun_count log + 1)) (next_step s log)

-- The group of what is due, and if nothing is, that of the next step. None comes if all steps were run.
abbrev pub carried_group_after : ScenarioValue → List Record → Option Due → Option (List Record)
carried_group_after s log (Some (ArrivalDue line)) = Some (arrival_group log line (reduced_taken_records s.settings log line.frame))
carried_group_after s log (Some TickDue) = Some (tick_group log)
carried_group_after s log None = carried_step_next s log

abbrev pub carried_next_group : ScenarioValue → List Record → Option (List Record)
carried_next_group s log = carried_group_after s log (carried_due log)
