-- The names that a log tells of, and what one more record changes in them.
use Rattle.std.specs.Prelude.{◌≡◌, ℕ, false, List, [], ◌++◌, fold, nat_eq, Option, None, Some, option_and_then}
use Rattle.std.specs.Cmp.Lexicographic.{pointwise}
use Rattle.std.specs.List.{list_any}
use Rattle.tap_name.specs.Names.{has_name, names_without}
use Rattle.tap_scenario.specs.declared.step.Step.{Step}
use Rattle.tap_log.specs.declared.record.Record.{Record}
use Rattle.tap_log.specs.Kinds.{abandoned_name, core_name, gone_name}
use Rattle.tap_log.specs.MoreRecords.{at_most_one}
use Rattle.tap_history.specs.Core.{abandoned_of, accepted_step, core_of, departures_of, gone_of, present_of}
use Rattle.tap_history.specs.Names.{names_of, with_name}
use Rattle.tap_history.specs.StepAsks.{depart_name, join_name}

-- the nodes that are core, those that are present, all names that there ever were, the nodes that are gone, those that are to give up
-- joining, and those whose departure was accepted
pub record NameLists : Type 0 where
  pub core : List (List ℕ)
  pub present : List (List ℕ)
  pub names : List (List ℕ)
  pub gone : List (List ℕ)
  pub abandoned : List (List ℕ)
  pub departed : List (List ℕ)

-- what a log says of these
abbrev pub lists_of : List Record → NameLists
lists_of log = record {
  core = core_of log;
  present = present_of log;
  names = names_of log;
  gone = gone_of log;
  abandoned = abandoned_of log;
  departed = departures_of log;
}

-- the step of the last record, if this next one accepts it; a log that isn't carried
abbrev pub accepted_after : Option Record → Record → Option Step
accepted_after None item = None
accepted_after (Some last) item = accepted_step false (last, item)

-- the names with one that came, unless it is among those that are gone, and without one that goes
abbrev pub names_changed : List (List ℕ) → Option (List ℕ) → List (List ℕ) → Option (List ℕ) → List (List ℕ)
names_changed names came gone goes = names_without (names ++ names_without (at_most_one came) gone) (at_most_one goes)

-- what one more record makes of these, if it accepts this step
abbrev pub lists_after : NameLists → Option Step → Record → NameLists
lists_after r accepted item = record {
  core = names_changed r.core (core_name item) r.gone (gone_name item);
  present = names_changed r.present (option_and_then join_name accepted) r.gone (gone_name item);
  names = fold with_name r.names (at_most_one (option_and_then join_name accepted));
  gone = r.gone ++ at_most_one (gone_name item);
  abandoned = r.abandoned ++ at_most_one (abandoned_name item);
  departed = r.departed ++ at_most_one (option_and_then depart_name accepted);
}

-- names in order, and for how many more there is room
pub record NamesValue : Type 0 where
  pub names : List (List ℕ)
  pub room : ℕ

-- a name is among the first ones exactly if it is among the second ones
abbrev pub HaveSame : List (List ℕ) → List (List ℕ) → Type 0
HaveSame names found = (name : List ℕ) → list_any (pointwise nat_eq name) found ≡ has_name names name

-- the lists of a roll, and for how many more names there is room in each
pub record RollValue : Type 0 where
  pub lists : NameLists
  pub room : ℕ

-- what these are at the beginning, with these members
abbrev pub lists_of_members : List (List ℕ) → NameLists
lists_of_members members = record {
  core = members;
  present = members;
  names = fold with_name [] members;
  gone = [];
  abandoned = [];
  departed = [];
}
