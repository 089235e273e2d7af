-- The group of records that a step, or a frame that is taken, adds to a log.
--
-- Rule: docs/FORMATS.md, "The course of a run".
use Rattle.std.specs.Prelude.{ℕ, List, [], ◌∷◌, ◌++◌, Option, None, Some}
use Rattle.std.specs.Option.{option_zip}
use Rattle.tap_name.specs.Settings.{SettingsValue}
use Rattle.tap_scenario.specs.declared.step.Step.{Step}
use Rattle.tap_scenario.specs.declared.step.Step.TheVariants.{Walk, Root, Table, Pointers, Garble, Cut}
use Rattle.tap_wire.specs.declared.frame.Frame.{Frame}
use Rattle.tap_log.specs.declared.record.Record.{Record}
use Rattle.tap_log.specs.declared.record.Record.TheVariants.{Refused}
use Rattle.tap_log.specs.declared.record.Refusal.{Refusal}
use Rattle.tap_log.specs.Counts.{sent_count}
use Rattle.tap_log.specs.MoreRecords.{at_most_one}
use Rattle.tap_history.specs.Refusals.{first_refusal}
use Rattle.tap_history.specs.StepAsks.{actor_of}
use Rattle.tap_rule.specs.Node.{NodeState}
use Rattle.tap_rule.specs.Event.{Event, Start}
use Rattle.tap_rule.specs.Event.Event.{Starts, Takes}
use Rattle.tap_rule.specs.Act.{act}
use Rattle.tap_safety.specs.Moved.{numbered_frame, starter}
use Rattle.tap_safety.specs.System.{System}
use Rattle.tap_runs.specs.Starts.{announced, start_of_step}
use Rattle.tap_runs.specs.Acts.{acted_records}
use Rattle.tap_runs.specs.Observed.{observed}
use Rattle.tap_runs.specs.Damage.{damage_record}

-- what the node of this name does at the event, if there is one, as the log says it
abbrev pub records_of_act : SettingsValue → List Record → List ℕ → Option NodeState → Event → List Record
records_of_act p before name None event = []
records_of_act p before name (Some node) event = acted_records p (sent_count before) name (act node event)

-- the node at which the step starts something, and what that is; none if the step is no start
abbrev pub start_at : List Record → Step → Option (List ℕ × Start)
start_at before step = option_zip (actor_of step) (start_of_step before step)

-- what an accepted start adds after its `Step`: what is said of it first, and then what its node does
abbrev pub started_records : SettingsValue → List Record → System → Step → Option (List ℕ × Start) → List Record
started_records p before s step None = []
started_records p before s step (Some (name, start)) =
    announced before step ++ records_of_act p before name (starter p s name start) (Starts start)

-- What an accepted step adds after its `Step`: an observation what it sees, a damaged copy why it is no frame, and a start what
-- comes of it.
unfoldable pub accepted_records : SettingsValue → List Record → System → Step → List Record
accepted_records p before s (Walk object asker) = at_most_one (observed p before s (Walk object asker))
accepted_records p before s (Root object) = at_most_one (observed p before s (Root object))
accepted_records p before s (Table name) = at_most_one (observed p before s (Table name))
accepted_records p before s (Pointers name) = at_most_one (observed p before s (Pointers name))
accepted_records p before s (Garble place at byte) = at_most_one (damage_record p before (Garble place at byte))
accepted_records p before s (Cut place bytes) = at_most_one (damage_record p before (Cut place bytes))
accepted_records p before s step = started_records p before s step (start_at before step)

-- what a step adds after its `Step`: its refusal, if it has one
abbrev pub records_unless : SettingsValue → List Record → System → ℕ → Step → Option Refusal → List Record
records_unless p before s index step (Some refusal) = Refused index refusal ∷ []
records_unless p before s index step None = accepted_records p before s step

abbrev pub step_records : SettingsValue → List Record → System → ℕ → Step → List Record
step_records p before s index step = records_unless p before s index step (first_refusal before step)

-- what a frame that is taken adds after its `Taken`: what its receiver does
abbrev pub received_records : SettingsValue → List Record → System → Option Frame → List Record
received_records p before s None = []
received_records p before s (Some frame) = records_of_act p before frame.to (s.node frame.to) (Takes frame)

abbrev pub taken_records : SettingsValue → List Record → System → ℕ → List Record
taken_records p before s number = received_records p before s (numbered_frame number s.frames)
