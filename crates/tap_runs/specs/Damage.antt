-- What a log says of a damaged copy of a frame that is offered to its receiver.
--
-- Rule: docs/FORMATS.md, "The course of a run".
use Rattle.std.specs.Prelude.{ℕ, List, slice_get, Option, None, Some, Result, Ok, Err, option_and_then}
use Rattle.tap_name.specs.Settings.{SettingsValue}
use Rattle.tap_scenario.specs.declared.step.Step.{Step}
use Rattle.tap_wire.specs.declared.fault.WireFault.{WireFault}
use Rattle.tap_wire.specs.declared.frame.Frame.{Frame}
use Rattle.tap_wire.specs.Reading.{frame_of}
use Rattle.tap_log.specs.declared.record.Record.{Record}
use Rattle.tap_log.specs.declared.record.Record.TheVariants.{Garbled}
use Rattle.tap_history.specs.Moments.{outstanding}
use Rattle.tap_history.specs.Refusals.{damaged}
use Rattle.tap_history.specs.StepAsks.{flight_place}

-- why the bytes are no frame; none if they are one
abbrev pub fault_in : Result Frame WireFault → Option WireFault
fault_in (Ok frame) = None
fault_in (Err fault) = Some fault

-- the number of the frame that the step copies, after this log
abbrev pub copied_number : List Record → Step → Option ℕ
copied_number before step = option_and_then (slice_get (outstanding before)) (flight_place step)

-- why the damaged copy that the step makes is no frame
abbrev pub fault_of_copy : SettingsValue → List Record → Step → Option WireFault
fault_of_copy p before step = option_and_then (λ copy. fault_in (frame_of p copy)) (damaged before step)

-- the record of the damaged copy: of which frame it is, and why it is none
abbrev pub garbled : Option ℕ → Option WireFault → Option Record
garbled (Some number) (Some fault) = Some (Garbled number fault)
garbled (Some number) None = None
garbled None fault = None

abbrev pub damage_record : SettingsValue → List Record → Step → Option Record
damage_record p before step = garbled (copied_number before step) (fault_of_copy p before step)
