-- The bytes of the frames of a log.
use Rattle.std.specs.Prelude.{ℕ, if◌then◌else◌, nat_eq, List, slice_get, Option, None, Some}
use Rattle.std.specs.List.{filter_map}
use Rattle.tap_log.specs.declared.record.Record.{Record}
use Rattle.tap_log.specs.declared.record.Record.TheVariants.{Sent}

-- the bytes of the frame with this number, if the record sends it
unfoldable pub sent_bytes : ℕ → Record → Option (List ℕ)
sent_bytes number (Sent sent bytes) = (if nat_eq sent number then Some bytes else None)
sent_bytes number other = None

-- the bytes of the frame with this number, if it was sent
abbrev pub bytes_of : List Record → ℕ → Option (List ℕ)
bytes_of log number = slice_get (filter_map (sent_bytes number) log) 0
