-- Which steps each call of a world takes, and what the last records of a log are.
--
-- Rule: docs/FORMATS.md, "The course of a run".
use Rattle.std.specs.Prelude.{ℕ, nat_eq, Bool, true, false, not, ◌&&◌, List, length, Option, None, Some, unwrap_or}
use Rattle.std.specs.List.{filter_map, last_or, list_any}
use Rattle.std.specs.Option.{option_map_or}
use Rattle.tap_scenario.specs.declared.step.Step.{Step}
use Rattle.tap_scenario.specs.declared.step.Step.TheVariants.{Walk, Root, Deliver, Table, Pointers, Garble, Cut, Tick, Lose, Repeat, RootSet}
use Rattle.tap_log.specs.declared.record.Record.{Record}
use Rattle.tap_log.specs.declared.record.Record.TheVariants.{Step as StepRecord, Finished, RootsOf}
use Rattle.tap_log.specs.Log.{last_of}
use Rattle.tap_ledger.specs.Woven.{Remark}

-- the step observes: it changes nothing, and the log has what it sees
unfoldable pub observes : Step → Bool
observes (Walk object asker) = true
observes (Root object) = true
observes (Table name) = true
observes (Pointers name) = true
observes other = false

-- the step offers a damaged copy of a frame to its receiver
unfoldable pub damages : Step → Bool
damages (Garble place at byte) = true
damages (Cut place bytes) = true
damages other = false

-- a choice of which whoever runs the steps may note a refusal
unfoldable pub may_be_refused : Step → Bool
may_be_refused (Deliver place) = true
may_be_refused Tick = true
may_be_refused (Lose place) = true
may_be_refused (Repeat place) = true
may_be_refused (RootSet object asker) = true
may_be_refused other = false

-- the index of a step that begins
unfoldable pub begun_index : Record → Option ℕ
begun_index (StepRecord index step) = Some index
begun_index other = None

-- the step asks for the roots of salted names
unfoldable pub asks_roots : Step → Bool
asks_roots (RootSet object asker) = true
asks_roots other = false

-- the record begins such a step
unfoldable pub begins_roots : Record → Bool
begins_roots (StepRecord index step) = asks_roots step
begins_roots other = false

-- the record tells the roots
unfoldable pub tells_roots : Record → Bool
tells_roots (RootsOf object asker roots) = true
tells_roots other = false

-- the log ends with a step that asks for roots, and no remark stands after it
abbrev pub awaits_roots : List Record → List Remark → Bool
awaits_roots log added =
    option_map_or begins_roots (last_of log) false && not (list_any (λ r. nat_eq r.plain_before (length log)) added)

-- the indices of the steps that have begun, and the last one, 0 if none has
abbrev pub begun_indices : List Record → List ℕ
begun_indices log = filter_map begun_index log

abbrev pub last_index : List Record → ℕ
last_index log = unwrap_or (last_or None (begun_indices log)) 0

-- the greatest index of a step
abbrev pub most_index : ℕ
most_index = 1000000

-- all steps were run
unfoldable pub finishes_run : Record → Bool
finishes_run (Finished steps) = true
finishes_run other = false

-- the log ends with its `Finished`
abbrev pub is_finished : List Record → Bool
is_finished log = option_map_or finishes_run (last_of log) false
