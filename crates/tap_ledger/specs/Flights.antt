-- The frames that are outstanding, and what one more record changes in them.
use Rattle.std.specs.Prelude.{ℕ, List, Option, None, Some}
use Rattle.std.specs.Option.{option_map_or}
use Rattle.tap_outstanding.specs.Outstanding.{OutstandingValue, place_of_number, sent_with, taken_at_place}
use Rattle.tap_log.specs.declared.record.Record.{Record}
use Rattle.tap_log.specs.declared.record.Record.TheVariants.{Sent, Taken}

-- the frame of this number is taken, if it is outstanding
abbrev pub taken_by_number : OutstandingValue → ℕ → OutstandingValue
taken_by_number s number = option_map_or (taken_at_place s) (place_of_number s.frames number) s

-- what one more record, at this place, makes of the frames
unfoldable pub followed : OutstandingValue → ℕ → Record → OutstandingValue
followed s record_place (Sent number bytes) = sent_with s record_place
followed s record_place (Taken number) = taken_by_number s number
followed s record_place other = s

-- the bytes that a record sends
unfoldable pub sent_payload : Record → Option (List ℕ)
sent_payload (Sent number bytes) = Some bytes
sent_payload other = None
