-- The frames and packets of a log that wait to be taken, by their places.
use Rattle.std.specs.Prelude.{ℕ, if◌then◌else◌, List, length, slice_get, Option, option_and_then}
use Rattle.tap_log.specs.declared.record.Record.{Record}
use Rattle.tap_log.specs.Kinds.{is_carried}
use Rattle.tap_log.specs.Frames.{bytes_of}
use Rattle.tap_history.specs.Moments.{outstanding, under_way}

-- the bytes of the frame at this place of the outstanding ones
abbrev pub bytes_at : List Record → ℕ → Option (List ℕ)
bytes_at log place = option_and_then (bytes_of log) (slice_get (outstanding log) place)

-- how many frames are outstanding; in a carried log, how many packets are under way
abbrev pub flight_count : List Record → ℕ
flight_count log = (if is_carried log then length (under_way log) else length (outstanding log))
