use Rattle.std.proofs.Common.{◌≡◌, ◌++◌}
use Rattle.tap_cast.specs.Targets.{slot_targets}
use Rattle.tap_table.proofs.Stepping.{from_digit, in_range}
use Rattle.tap_cast.proofs.targets.push_range.Given as goal

abbrev pub invariant-loop-digit : goal.invariant-loop-digit
invariant-loop-digit l =
    l.targets.items ++ in_range (slot_targets l.table) (from_digit l.range l.digit)
    ≡ l.fn.targets.items ++ in_range (slot_targets l.table) l.range
