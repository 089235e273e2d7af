use Rattle.std.proofs.Common.{◌≡◌, ◌++◌}
use Rattle.tap_table.proofs.Stepping.{from_digit, in_range}
use Rattle.tap_multicast.specs.Slots.{offered_in}
use Rattle.tap_multicast.proofs.offer.push_range.Given as goal

abbrev pub invariant-loop-digit : goal.invariant-loop-digit
invariant-loop-digit l =
    l.offer.items ++ in_range (offered_in l.table l.watch l.joiner) (from_digit l.range l.digit)
    ≡ l.fn.offer.items ++ in_range (offered_in l.table l.watch l.joiner) l.range
