-- Which nodes take part at a moment of a log. A set of names is a list of them.
use Rattle.std.specs.Prelude.{ℕ, Bool, if◌then◌else◌, List, [], ◌∷◌, ◌++◌, drop, filter, Option, None}
use Rattle.std.specs.List.{filter_map, zip}
use Rattle.tap_name.specs.Names.{has_name, names_without}
use Rattle.tap_scenario.specs.declared.step.Step.{Step}
use Rattle.tap_log.specs.declared.record.Record.{Record}
use Rattle.tap_log.specs.Kinds.{abandoned_name, accepts, begin_members, core_name, gone_name, is_carried, step_of}
use Rattle.tap_history.specs.StepAsks.{depart_name, join_name}

-- each record with the next one
abbrev pub neighbours : List Record → List (Record × Record)
neighbours log = zip log (drop 1 log)

-- the step that the first of two neighbours begins, if the second one accepts it
unfoldable pub accepted_step : Bool → Record × Record → Option Step
accepted_step carried both = (if accepts carried both.1 then step_of both.0 else None)

-- the accepted steps, of a log that is carried or not
abbrev pub accepted_in : Bool → List Record → List Step
accepted_in carried log = filter_map (accepted_step carried) (neighbours log)

-- The steps that are accepted: the first record after each in its group is neither `Refused` nor `Spent`. This has its
-- meaning for starts; of other steps nothing is said by it.
abbrev pub accepted_steps : List Record → List Step
accepted_steps log = accepted_in (is_carried log) log

-- the members: those of the beginning
abbrev pub members_of : List Record → List (List ℕ)
members_of [] = []
members_of (item ∷ items) = begin_members item

-- the names whose join is accepted
abbrev pub joins_of : List Record → List (List ℕ)
joins_of log = filter_map join_name (accepted_steps log)

-- the names whose departure is accepted
abbrev pub departures_of : List Record → List (List ℕ)
departures_of log = filter_map depart_name (accepted_steps log)

-- the names that are gone
abbrev pub gone_of : List Record → List (List ℕ)
gone_of log = filter_map gone_name log

-- The core nodes: the members and the names of `Core` records, less the names of `Gone` records. A node that departs is core
-- until it is gone.
abbrev pub core_of : List Record → List (List ℕ)
core_of log = names_without (members_of log ++ filter_map core_name log) (gone_of log)

-- the nodes that are present: the members and the names of accepted joins, less the names of `Gone` records
abbrev pub present_of : List Record → List (List ℕ)
present_of log = names_without (members_of log ++ joins_of log) (gone_of log)

-- the nodes that are to give up joining, or have: the names of `Abandoned` records
abbrev pub abandoned_of : List Record → List (List ℕ)
abandoned_of log = filter_map abandoned_name log

-- the nodes that have given up joining: those that were abandoned and are gone
abbrev pub ceased_of : List Record → List (List ℕ)
ceased_of log = filter (has_name (gone_of log)) (abandoned_of log)
