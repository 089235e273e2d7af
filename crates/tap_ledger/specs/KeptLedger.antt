-- What a ledger keeps beside its log is what the log says.
use Rattle.std.specs.Prelude.{◌≡◌, ℕ, ◌<◌, ◌≤◌, Bool, false, if◌then◌else◌, List, [], ◌∷◌, ◌++◌, length, map, slice_get, All, Option, None, Some, ◌⊎◌}
use Rattle.std.specs.List.{filter_map, last_or}
use Rattle.tap_name.specs.Settings.{SettingsValue}
use Rattle.tap_outstanding.specs.declared.outstanding.Flight.{Flight}
use Rattle.tap_outstanding.specs.Outstanding.{OutstandingValue}
use Rattle.tap_log.specs.declared.record.Pair.{Pair}
use Rattle.tap_log.specs.declared.record.Record.{Record}
use Rattle.tap_log.specs.declared.record.Record.TheVariants.{Sent}
use Rattle.tap_log.specs.Counts.{cast_count, sent_count, ticket_count}
use Rattle.tap_log.specs.Frames.{bytes_of}
use Rattle.tap_log.specs.Kinds.{is_carried, packet_number, step_of}
use Rattle.tap_log.specs.Log.{last_of}
use Rattle.tap_log.specs.MoreRecords.{first_of_both}
use Rattle.tap_history.specs.Core.{accepted_in}
use Rattle.tap_history.specs.Departing.{departing_of}
use Rattle.tap_history.specs.GroupLaws.{IsGroup, IsNumbered}
use Rattle.tap_history.specs.Moments.{outstanding}
use Rattle.tap_history.specs.Published.{has_pair, published_of}
use Rattle.tap_history.specs.Refusals.{begin_settings}
use Rattle.tap_history.specs.StepAsks.{depart_name}
use Rattle.tap_ledger.specs.NameLists.{NameLists, lists_of}
use Rattle.tap_ledger.specs.Pairs.{stays_published}

-- ---- frames

-- the record of the frame stands at its place of the whole log, and has the bytes of this number
pub record IsFlight (log whole : List Record) (flight : Flight) : Type 0 where
  pub bytes : List ℕ
  pub there : slice_get whole flight.record_place ≡ Some (Sent flight.number bytes)
  pub are : bytes_of log flight.number ≡ Some bytes

-- the numbers of these frames
abbrev pub flight_numbers : List Flight → List ℕ
flight_numbers flights = map (λ flight. flight.number) flights

-- these are the frames that are outstanding, and so many were sent
pub record AreFlights (log whole : List Record) (frames : OutstandingValue) : Type 0 where
  pub sent : frames.sent ≡ sent_count log
  pub numbers : flight_numbers frames.frames ≡ outstanding log
  pub each : All (IsFlight log whole) frames.frames

-- ---- departures

-- no step has begun, and no departure was accepted
pub record HasNoStep (log : List Record) (leaver : Option (List ℕ)) : Type 0 where
  pub none : All (λ item. step_of item ≡ None) log
  pub nobody : leaver ≡ None

-- This node's departure was accepted in the last group of the log; or if there is none, it was departing before that group.
pub record LeavesInGroup (log : List Record) (leaver : Option (List ℕ)) : Type 0 where
  pub before : List Record
  pub first : Record
  pub after : List Record
  pub whole : log ≡ before ++ first ∷ after
  pub group : IsGroup before first after
  pub uncarried : is_carried before ≡ false
  pub departs : leaver ≡ last_or (departing_of before) (filter_map depart_name (accepted_in false (first ∷ after)))

-- this node departs, unless no frame is outstanding
abbrev pub Leaves : List Record → Option (List ℕ) → Type 0
Leaves log leaver = HasNoStep log leaver ⊎ LeavesInGroup log leaver

-- who departs after one more record, unless no frame is outstanding then: once a group begins, who departed before it
abbrev pub leaver_next : Bool → Option (List ℕ) → Option (List ℕ) → Option (List ℕ) → Option (List ℕ)
leaver_next begins departing departs leaver = (if begins then departing else first_of_both departs leaver)

-- ---- the last record

-- at this place of the whole log stands the last one of its plain records
pub record IsLast (log whole : List Record) (place : ℕ) : Type 0 where
  pub within : place < length whole
  pub there : slice_get whole place ≡ last_of log

-- ---- all of it

-- The log is not carried and has its beginning; frames and tickets are numbered, and no packet was made.
pub record IsKeepable (settings : SettingsValue) (log : List Record) : Type 0 where
  pub begun : 1 ≤ length log
  pub begins : begin_settings log ≡ Some settings
  pub uncarried : is_carried log ≡ false
  pub numbered : IsNumbered log
  pub no_packets : filter_map packet_number log ≡ []

-- What is kept is what the plain records of the whole log say.
pub record Kept (log whole : List Record) (settings : SettingsValue) (frames : OutstandingValue) (lists : NameLists)
    (keys : List (List ℕ × List ℕ)) (tickets casts : ℕ) (leaver : Option (List ℕ)) (last : ℕ) : Type 0 where
  pub begins : IsKeepable settings log
  pub flights : AreFlights log whole frames
  pub names : lists ≡ lists_of log
  pub pairs : (q : Pair) → stays_published keys lists.departed q ≡ has_pair (published_of log) q
  pub asked : tickets ≡ ticket_count log
  pub begun : casts ≡ cast_count log
  pub leaves : Leaves log leaver
  pub ends : IsLast log whole last

-- there is room for so many more records in all that is kept
pub record LedgerHasRoom (room log frames roll pairs : ℕ) : Type 0 where
  pub in_log : room ≤ log
  pub in_frames : room ≤ frames
  pub in_roll : room ≤ roll
  pub in_pairs : room ≤ pairs
