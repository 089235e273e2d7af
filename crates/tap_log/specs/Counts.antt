-- How much there was of what single records tell.
use Rattle.std.specs.Prelude.{ℕ, ◌+◌, Bool, true, false, ◌&&◌, if◌then◌else◌, List, [], ◌∷◌, length, is_some}
use Rattle.std.specs.List.{filter_map}
use Rattle.tap_scenario.specs.declared.step.Step.{Step}
use Rattle.tap_scenario.specs.declared.step.Step.TheVariants.{Tick, Repeat}
use Rattle.tap_log.specs.declared.record.Record.{Record}
use Rattle.tap_log.specs.declared.record.Record.TheVariants.{Step as StepRecord}
use Rattle.tap_log.specs.Kinds.{asked_ticket, begun_cast, packet_number, sent_number}

-- how many frames were sent
abbrev pub sent_count : List Record → ℕ
sent_count log = length (filter_map sent_number log)

-- how many packets were made
abbrev pub packet_count : List Record → ℕ
packet_count log = length (filter_map packet_number log)

-- how many lookups were asked
abbrev pub ticket_count : List Record → ℕ
ticket_count log = length (filter_map asked_ticket log)

-- how many casts began
abbrev pub cast_count : List Record → ℕ
cast_count log = length (filter_map begun_cast log)

-- the step sends packets once more
unfoldable pub resends : Step → Bool
resends Tick = true
resends (Repeat place) = true
resends other = false

-- whether the last step sends packets once more, after one more record
unfoldable pub resends_after : Bool → Record → Bool
resends_after before (StepRecord index step) = resends step
resends_after before other = before

-- The packets that `tick` and `repeat` steps made: those that follow such a step, and no other step since.
abbrev pub resent_from : Bool → List Record → ℕ
resent_from before [] = 0
resent_from before (item ∷ items) =
    (if before && is_some (packet_number item) then 1 else 0) + resent_from (resends_after before item) items

-- how many packets `tick` and `repeat` steps made
abbrev pub resent_count : List Record → ℕ
resent_count log = resent_from false log
