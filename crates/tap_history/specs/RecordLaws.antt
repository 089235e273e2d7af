-- What one more record at the end of a log changes.
use Rattle.std.specs.Prelude.{◌≡◌, ℕ, ◌+◌, Bool, List, [], ◌∷◌, ◌++◌, length, filter, fold, option_and_then, slice_get, Option, None, Some}
use Rattle.std.specs.List.{filter_map}
use Rattle.tap_name.specs.Settings.{SettingsValue}
use Rattle.tap_scenario.specs.declared.step.Step.{Step}
use Rattle.tap_log.specs.declared.record.Record.{Record}
use Rattle.tap_log.specs.declared.record.Record.TheVariants.{Arrived, Begin, Carrier}
use Rattle.tap_log.specs.Kinds.{abandoned_name, arrived_number, begin_members, core_name, ended_number, gone_name, is_carried, packet_number, published_pair, sent_number, taken_number, withdrawn_pair}
use Rattle.tap_history.specs.StepAsks.{depart_name, join_name}
use Rattle.tap_history.specs.Moments.{acknowledged, acknowledged_by, acknowledged_by_all, awaiting, numbers_less, outstanding, under_way}
use Rattle.tap_log.specs.MoreRecords.{at_most_one, first_of_both}
use Rattle.tap_log.specs.Frames.{bytes_of, sent_bytes}
use Rattle.tap_history.specs.Flights.{bytes_at}
use Rattle.tap_log.specs.Log.{last_of}
use Rattle.tap_history.specs.Core.{abandoned_of, accepted_step, accepted_steps, ceased_of, core_of, departures_of, gone_of, present_of}
use Rattle.tap_name.specs.Names.{has_name, names_without}
use Rattle.tap_history.specs.Departing.{departing_of}
use Rattle.tap_history.specs.Published.{pairs_less, published_of, without_servers}
use Rattle.tap_history.specs.Names.{join_count, names_of, with_name}

-- the step that one more record accepts, after this last one
abbrev pub accepted_next : Bool → Option Record → Record → List Step
accepted_next carried None item = []
accepted_next carried (Some last) item = at_most_one (accepted_step carried (last, item))

-- the step that one more record accepts
abbrev pub accepted_by : List Record → Record → List Step
accepted_by log item = accepted_next (is_carried log) (last_of log) item

-- what holds of a log that has its beginning alone: the members are core and present, and nothing has happened
pub record IsNewLog (members : List (List ℕ)) (log : List Record) : Type 0 where
  pub accepted : accepted_steps log ≡ []
  pub core : core_of log ≡ members
  pub present : present_of log ≡ members
  pub published : published_of log ≡ []
  pub departing : departing_of log ≡ None
  pub names : names_of log ≡ fold with_name [] members

-- The beginning gives the members. Of one more record, which gives none, what it tells is added, and what it ends is taken away.
pub record RecordChanges : Type 0 where
  pub begins : (settings : SettingsValue) (frames : ℕ) (members : List (List ℕ)) → IsNewLog members (Begin settings frames members ∷ [])
  pub begins_carried : (settings : SettingsValue) (frames : ℕ) (members : List (List ℕ))
      → IsNewLog members (Begin settings frames members ∷ Carrier ∷ [])
  pub accepted : (log : List Record) (item : Record)
      → accepted_steps (log ++ item ∷ []) ≡ accepted_steps log ++ accepted_by log item
  pub core : (log : List Record) (item : Record) → begin_members item ≡ []
      → core_of (log ++ item ∷ [])
      ≡ names_without (core_of log ++ names_without (at_most_one (core_name item)) (gone_of log)) (at_most_one (gone_name item))
  pub present : (log : List Record) (item : Record) → begin_members item ≡ []
      → present_of (log ++ item ∷ [])
      ≡ names_without (present_of log ++ names_without (filter_map join_name (accepted_by log item)) (gone_of log))
      (at_most_one (gone_name item))
  pub abandoned : (log : List Record) (item : Record)
      → abandoned_of (log ++ item ∷ []) ≡ abandoned_of log ++ at_most_one (abandoned_name item)
  pub ceased : (log : List Record) (item : Record)
      → ceased_of (log ++ item ∷ [])
      ≡ filter (has_name (gone_of log ++ at_most_one (gone_name item))) (abandoned_of log ++ at_most_one (abandoned_name item))
  pub frames : (log : List Record) (item : Record)
      → outstanding (log ++ item ∷ [])
      ≡ numbers_less (outstanding log ++ numbers_less (at_most_one (sent_number item)) (filter_map taken_number log))
      (at_most_one (taken_number item))
  pub places : (log : List Record) (item : Record) (place : ℕ)
      → bytes_at (log ++ item ∷ []) place
      ≡ option_and_then (λ number. first_of_both (bytes_of log number) (sent_bytes number item))
      (slice_get (numbers_less (outstanding log ++ numbers_less (at_most_one (sent_number item)) (filter_map taken_number log))
      (at_most_one (taken_number item))) place)
  pub packets : (log : List Record) (item : Record)
      → under_way (log ++ item ∷ [])
      ≡ numbers_less (under_way log ++ numbers_less (at_most_one (packet_number item)) (filter_map ended_number log))
      (at_most_one (ended_number item))
  pub awaits : (log : List Record) (item : Record) → arrived_number item ≡ None
      → awaiting (log ++ item ∷ [])
      ≡ numbers_less (awaiting log ++ numbers_less (at_most_one (sent_number item)) (acknowledged log))
      (at_most_one (acknowledged_by (filter_map arrived_number log) item))
  pub arrives : (log : List Record) (packet : ℕ)
      → awaiting (log ++ Arrived packet ∷ []) ≡ numbers_less (awaiting log) (acknowledged_by_all (packet ∷ []) log)
  pub published : (log : List Record) (item : Record)
      → published_of (log ++ item ∷ []) ≡ without_servers (filter_map depart_name (accepted_by log item))
      (pairs_less (published_of log) (at_most_one (withdrawn_pair item))
      ++ without_servers (departures_of log) (at_most_one (published_pair item)))
  pub joins : (log : List Record) (item : Record)
      → join_count (log ++ item ∷ []) ≡ join_count log + length (filter_map join_name (accepted_by log item))
  pub names : (log : List Record) (item : Record) → begin_members item ≡ []
      → names_of (log ++ item ∷ []) ≡ fold with_name (names_of log) (filter_map join_name (accepted_by log item))
