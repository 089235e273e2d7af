-- The numbers and names that are asked of single records.
use Rattle.std.specs.Prelude.{ℕ, List, Option}
use Rattle.tap_log.specs.declared.kinds.NumberKind.{NumberKind}
use Rattle.tap_log.specs.declared.kinds.NumberKind.TheVariants.{Sent, Taken, Made, Arrived, Ended, Asked, Cast}
use Rattle.tap_log.specs.declared.kinds.NameKind.{NameKind}
use Rattle.tap_log.specs.declared.kinds.NameKind.TheVariants.{Core, Gone, Abandoned}
use Rattle.tap_log.specs.declared.record.Record.{Record}
use Rattle.tap_log.specs.Kinds.{abandoned_name, arrived_number, asked_ticket, begun_cast, core_name, ended_number, gone_name, packet_number, sent_number, taken_number}

-- the number that a record tells
abbrev pub number_in : NumberKind → Record → Option ℕ
number_in Sent = sent_number
number_in Taken = taken_number
number_in Made = packet_number
number_in Arrived = arrived_number
number_in Ended = ended_number
number_in Asked = asked_ticket
number_in Cast = begun_cast

-- the name that a record tells
abbrev pub name_in : NameKind → Record → Option (List ℕ)
name_in Core = core_name
name_in Gone = gone_name
name_in Abandoned = abandoned_name
