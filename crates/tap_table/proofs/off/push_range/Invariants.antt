use Rattle.std.proofs.Common.{◌≡◌, ◌≤◌, ◌+◌, ◌++◌, length}
use Rattle.tap_table.specs.ByName.{targets_of}
use Rattle.tap_table.specs.Ties.{off_ties}
use Rattle.tap_table.proofs.LinksByName.{links_in}
use Rattle.tap_table.proofs.Stepping.{from_digit}
use Rattle.tap_table.proofs.off.push_range.Given as goal

abbrev pub invariant-loop-digit : goal.invariant-loop-digit
invariant-loop-digit l =
    let left = targets_of (links_in l.table (from_digit l.range l.digit)) in
    let all = targets_of (links_in l.table l.range) in
    (l.stamp + length left ≡ l.fn.stamp + length all)
    × (l.words.items ++ off_ties l.stamp left ≡ l.fn.words.items ++ off_ties l.fn.stamp all)
    × (l.fn.stamp ≤ l.stamp)
