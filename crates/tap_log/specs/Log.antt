-- What contracts see of a log, and what is said of its records one after another.
use Rattle.std.specs.Prelude.{ℕ, List, [], ◌∷◌, ◌++◌, Option, None, Some}
use Rattle.std.specs.List.{filter_map}
use Rattle.tap_scenario.specs.declared.step.Step.{Step}
use Rattle.tap_log.specs.declared.record.Record.{Record}
use Rattle.tap_log.specs.Kinds.{step_of}

-- the records, and for how many more there is room
pub record LogValue : Type 0 where
  pub records : List Record
  pub spare : ℕ

-- the record that was added last
abbrev pub last_of : List Record → Option Record
last_of [] = None
last_of (item ∷ []) = Some item
last_of (item ∷ next ∷ items) = last_of (next ∷ items)

-- P holds of each record, given the records before it
abbrev pub EachFrom : (List Record → Record → Type 0) → List Record → List Record → Type 0
EachFrom P before [] = Unit {0}
EachFrom P before (item ∷ items) = P before item × EachFrom P (before ++ item ∷ []) items

abbrev pub EachRecord : (List Record → Record → Type 0) → List Record → Type 0
EachRecord P log = EachFrom P [] log

-- the steps that were begun, in their order
abbrev pub begun_steps : List Record → List Step
begun_steps log = filter_map step_of log
