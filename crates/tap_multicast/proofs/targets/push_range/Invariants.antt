use Rattle.std.proofs.Common.{◌≡◌, ◌++◌}
use Rattle.tap_table.proofs.Stepping.{from_digit, in_range}
use Rattle.tap_multicast.specs.Slots.{told_in}
use Rattle.tap_multicast.proofs.targets.push_range.Given as goal

abbrev pub invariant-loop-digit : goal.invariant-loop-digit
invariant-loop-digit l =
    l.targets.items ++ in_range (told_in l.table l.cover) (from_digit l.range l.digit)
    ≡ l.fn.targets.items ++ in_range (told_in l.table l.cover) l.range
