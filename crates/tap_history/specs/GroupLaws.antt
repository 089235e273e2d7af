-- What one more group at the end of a log changes.
use Rattle.std.specs.Prelude.{◌≡◌, ℕ, ◌+◌, ◌<◌, ◌≤◌, All, false, true, if◌then◌else◌, List, [], ◌∷◌, ◌++◌, length, filter, fold, option_and_then, slice_get, Option, None}
use Rattle.std.specs.List.{filter_map, last_or, range_with_len}
use Rattle.tap_name.specs.Settings.{SettingsValue}
use Rattle.tap_scenario.specs.declared.step.Step.{Step}
use Rattle.tap_log.specs.declared.record.Record.{Record}
use Rattle.tap_log.specs.declared.record.Record.TheVariants.{Begin, Carrier}
use Rattle.tap_log.specs.Kinds.{arrived_number, asked_ticket, begins_group, core_name, ended_number, is_carried, packet_number, packet_frame, sent_number, taken_number, withdrawn_pair}
use Rattle.tap_history.specs.StepAsks.{depart_name, join_name}
use Rattle.tap_history.specs.Moments.{acknowledged_by_all, awaiting, ends_before, has_number, is_moment, is_still, numbers_less, outstanding, under_way}
use Rattle.tap_log.specs.Log.{last_of}
use Rattle.tap_history.specs.Core.{abandoned_of, accepted_in, ceased_of, core_of, departures_of, gone_of, present_of}
use Rattle.tap_name.specs.Names.{has_name, names_without}
use Rattle.tap_history.specs.Departing.{departing_of}
use Rattle.tap_history.specs.Published.{pairs_less, published_of, unwithdrawn_pairs, without_servers}
use Rattle.tap_log.specs.Counts.{packet_count, sent_count, ticket_count}
use Rattle.tap_history.specs.Groups.{after_beginning, beginning_of, ending_of, groups_of, is_ended, is_ending, is_lengthened, moments_of, records_of}
use Rattle.tap_history.specs.Names.{names_of, with_name}
use Rattle.tap_log.specs.Frames.{bytes_of}
use Rattle.tap_log.specs.MoreRecords.{first_of_both}
use Rattle.tap_history.specs.Flights.{bytes_at}

-- the records of one group, after a log that has begun: the first one begins the group, and no later one begins another
pub record IsGroup (log : List Record) (first : Record) (after : List Record) : Type 0 where
  pub begun : 1 ≤ length log
  pub begins : begins_group (is_carried log) first ≡ true
  pub alone : All (λ item. begins_group (is_carried log) item ≡ false) after

-- The node that is departing once a group has ended: none if no frame is then outstanding; else the one whose departure the
-- group accepts; and if it accepts none, the one that was departing before.
abbrev pub departing_after : List Record → List Record → Option (List ℕ)
departing_after log group =
    (if is_still (log ++ group) then None else last_or (departing_of log) (filter_map depart_name (accepted_in (is_carried log) group)))

-- One more group keeps the moments that there were. Its end is the next one, and no moment is within it.
pub record OneMoreGroup : Type 0 where
  pub earlier : (log : List Record) (first : Record) (after : List Record) → IsGroup log first after
      → (m : ℕ) → m ≤ length log → is_moment (log ++ first ∷ after) m ≡ is_moment log m
  pub within : (log : List Record) (first : Record) (after : List Record) → IsGroup log first after
      → (m : ℕ) → length log < m → m < length (log ++ first ∷ after) → is_moment (log ++ first ∷ after) m ≡ false
  pub end : (log : List Record) (first : Record) (after : List Record) → IsGroup log first after
      → is_moment (log ++ first ∷ after) (length (log ++ first ∷ after)) ≡ true
  pub departing : (log : List Record) (first : Record) (after : List Record) → IsGroup log first after
      → departing_of (log ++ first ∷ after) ≡ departing_after log (first ∷ after)

-- the log has its beginning, and after that a group begins or nothing stands
pub record IsOpened (log : List Record) : Type 0 where
  pub begun : 1 ≤ length log
  pub next : ends_before (is_carried log) (slice_get (after_beginning log) 0) ≡ true

-- A log is its beginning, its groups and its ending. One that has its beginning alone has no group, and one more whole group is its
-- last one; an ending leaves the groups as they were. The moments of a log without an ending are the ends of its beginning and
-- of each group.
pub record LogInGroups : Type 0 where
  pub whole : (log : List Record) → beginning_of log ++ (records_of (groups_of log) ++ ending_of log) ≡ log
  pub none : (settings : SettingsValue) (frames : ℕ) (members : List (List ℕ)) → groups_of (Begin settings frames members ∷ []) ≡ []
  pub none_carried : (settings : SettingsValue) (frames : ℕ) (members : List (List ℕ))
      → groups_of (Begin settings frames members ∷ Carrier ∷ []) ≡ []
  pub more : (log : List Record) (first : Record) (after : List Record) → IsGroup log first after
      → is_ended log ≡ false → is_ended (first ∷ after) ≡ false
      → groups_of (log ++ first ∷ after) ≡ groups_of log ++ (first ∷ after) ∷ []
  pub ended : (log : List Record) (first : Record) (after : List Record) → 1 ≤ length log → is_ended log ≡ false
      → is_ending (is_carried log) (first ∷ after) ≡ true
      → is_lengthened (is_carried log) (last_of (after_beginning log)) (first ∷ after) ≡ false
      → (groups_of (log ++ first ∷ after) ≡ groups_of log) × (ending_of (log ++ first ∷ after) ≡ first ∷ after)
  pub moments : (log : List Record) → IsOpened log → is_ended log ≡ false
      → (m : ℕ) → is_moment log m ≡ has_number (moments_of log) m

-- the steps that a group of this log accepts
abbrev pub accepted_of : List Record → List Record → List Step
accepted_of log group = accepted_in (is_carried log) group

-- Frames are numbered from 0 and tickets from 1, in their order, and no frame is taken that wasn't sent.
pub record IsNumbered (log : List Record) : Type 0 where
  pub sent : filter_map sent_number log ≡ range_with_len 0 (sent_count log)
  pub taken : All (λ number. number < sent_count log) (filter_map taken_number log)
  pub asked : filter_map asked_ticket log ≡ range_with_len 1 (ticket_count log)

-- the records of a group number on, and take frames that were sent before it
pub record NumbersOn (log group : List Record) : Type 0 where
  pub sent : filter_map sent_number group ≡ range_with_len (sent_count log) (sent_count group)
  pub taken : All (λ number. number < sent_count log) (filter_map taken_number group)
  pub asked : filter_map asked_ticket group ≡ range_with_len (1 + ticket_count log) (ticket_count group)

-- packets are numbered from 0, in their order; no packet arrives or is lost that wasn't made, and none is made for a frame
-- that wasn't sent
pub record ArePacketsNumbered (log : List Record) : Type 0 where
  pub made : filter_map packet_number log ≡ range_with_len 0 (packet_count log)
  pub ended : All (λ number. number < packet_count log) (filter_map ended_number log)
  pub frames : All (λ frame. frame < sent_count log) (filter_map packet_frame log)

-- the packets of a group number on; those that arrive in it, or are lost, were made before it
pub record PacketsNumberOn (log group : List Record) : Type 0 where
  pub made : filter_map packet_number group ≡ range_with_len (packet_count log) (packet_count group)
  pub ended : All (λ number. number < packet_count log) (filter_map ended_number group)
  pub frames : All (λ frame. frame < sent_count (log ++ group)) (filter_map packet_frame group)

-- What one more group tells is added, and what it ends is taken away. If frames are numbered on, those that it sends are
-- outstanding, and of the earlier ones those that it doesn't take; a frame is found by its place among these. If packets are, too,
-- those that it makes are under way, and the frames that it sends await their acknowledgement, and of the earlier packets and
-- frames those that it doesn't end or acknowledge.
pub record GroupChanges : Type 0 where
  pub core : (log : List Record) (first : Record) (after : List Record) → IsGroup log first after
      → core_of (log ++ first ∷ after)
      ≡ names_without (core_of log ++ names_without (filter_map core_name (first ∷ after)) (gone_of log)) (gone_of (first ∷ after))
  pub present : (log : List Record) (first : Record) (after : List Record) → IsGroup log first after
      → present_of (log ++ first ∷ after)
      ≡ names_without (present_of log ++ names_without (filter_map join_name (accepted_of log (first ∷ after))) (gone_of log))
      (gone_of (first ∷ after))
  pub names : (log : List Record) (first : Record) (after : List Record) → IsGroup log first after
      → names_of (log ++ first ∷ after) ≡ fold with_name (names_of log) (filter_map join_name (accepted_of log (first ∷ after)))
  pub published : (log : List Record) (first : Record) (after : List Record) → IsGroup log first after
      → published_of (log ++ first ∷ after) ≡ without_servers (filter_map depart_name (accepted_of log (first ∷ after)))
      (pairs_less (published_of log) (filter_map withdrawn_pair (first ∷ after))
      ++ without_servers (departures_of log) (unwithdrawn_pairs (first ∷ after)))
  pub frames : (log group : List Record) → IsNumbered log → NumbersOn log group
      → outstanding (log ++ group) ≡ numbers_less (outstanding log) (filter_map taken_number group) ++ filter_map sent_number group
  pub numbered : (log group : List Record) → IsNumbered log → NumbersOn log group → IsNumbered (log ++ group)
  pub places : (log group : List Record) → IsNumbered log → NumbersOn log group → (place : ℕ)
      → bytes_at (log ++ group) place
      ≡ option_and_then (λ number. first_of_both (bytes_of log number) (bytes_of group number))
      (slice_get (numbers_less (outstanding log) (filter_map taken_number group) ++ filter_map sent_number group) place)
  pub abandoned : (log group : List Record) → abandoned_of (log ++ group) ≡ abandoned_of log ++ abandoned_of group
  pub ceased : (log group : List Record)
      → ceased_of (log ++ group) ≡ filter (has_name (gone_of log ++ gone_of group)) (abandoned_of log ++ abandoned_of group)
  pub packets : (log group : List Record) → ArePacketsNumbered log → PacketsNumberOn log group
      → under_way (log ++ group) ≡ numbers_less (under_way log) (filter_map ended_number group) ++ filter_map packet_number group
  pub awaits : (log group : List Record) → IsNumbered log → NumbersOn log group → ArePacketsNumbered log → PacketsNumberOn log group
      → awaiting (log ++ group)
      ≡ numbers_less (awaiting log) (acknowledged_by_all (filter_map arrived_number group) log) ++ filter_map sent_number group
  pub packets_numbered : (log group : List Record) → ArePacketsNumbered log → PacketsNumberOn log group
      → ArePacketsNumbered (log ++ group)
