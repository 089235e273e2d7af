-- Whether one record may be added to the log of a ledger, by what is at hand: what tests ask before they add it.
use Rattle.std.specs.Prelude.{ℕ, Bool, true, not, ◌&&◌, List, nat_eq, nat_lt, Option, None, Some, is_some}
use Rattle.tap_log.specs.declared.record.Record.{Record}
use Rattle.tap_log.specs.Counts.{sent_count}
use Rattle.tap_log.specs.Kinds.{asked_ticket, sent_number, taken_number}
use Rattle.tap_ledger.specs.Added.{is_plain, most_ledger_frames}

-- the number, if there is one, is this one
abbrev pub is_next : Option ℕ → ℕ → Bool
is_next None next = true
is_next (Some number) next = nat_eq number next

-- the number, if there is one, is below this one
abbrev pub number_is_below : Option ℕ → ℕ → Bool
number_is_below None bound = true
number_is_below (Some number) bound = nat_lt number bound

-- the record is plain, and the frame that it sends, if it sends one, is numbered on
abbrev pub can_send : List Record → Record → Bool
can_send log item = is_plain item && (is_next (sent_number item) (sent_count log) && nat_lt (sent_count log) most_ledger_frames)

-- the frame that the record takes, if it takes one, was sent; and it asks no lookup
abbrev pub can_take_record : List Record → Record → Bool
can_take_record log item = number_is_below (taken_number item) (sent_count log) && not (is_some (asked_ticket item))

-- one record that asks no lookup may be added, and one more frame sent
abbrev pub can_add_one : List Record → Record → Bool
can_add_one log item = can_send log item && can_take_record log item
