-- A log without what only its carrier tells.
use Rattle.std.specs.Prelude.{Bool, true, false, not, List, filter}
use Rattle.tap_log.specs.declared.record.Record.{Record}
use Rattle.tap_log.specs.declared.record.Record.TheVariants.{Carrier, Packet, Arrived, Ticked, Lost, RootsOf}

-- the record is of packets, or tells the roots of salted names
unfoldable pub is_added : Record → Bool
is_added Carrier = true
is_added (Packet number frame ack) = true
is_added (Arrived packet) = true
is_added Ticked = true
is_added (Lost packet) = true
is_added (RootsOf object asker roots) = true
is_added other = false

-- The reduced log: that of a run without packets, whose groups are those of a log that isn't carried.
abbrev pub reduced : List Record → List Record
reduced log = filter (λ item. not (is_added item)) log
