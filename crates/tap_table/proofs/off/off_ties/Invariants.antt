use Rattle.std.proofs.Common.{◌≡◌, ◌≤◌, ◌+◌, ◌++◌, length}
use Rattle.tap_table.specs.ByName.{targets_by_name, targets_of}
use Rattle.tap_table.specs.Ties.{off_ties}
use Rattle.tap_table.proofs.LinksByName.{links_from}
use Rattle.tap_table.proofs.off.off_ties.Given as goal

abbrev pub invariant-loop-i : goal.invariant-loop-i
invariant-loop-i l =
    let left = targets_of (links_from l.table l.i) in
    (l.stamp + length left ≡ l.fn.stamp + length (targets_by_name l.table))
    × (l.words.items ++ off_ties l.stamp left ≡ off_ties l.fn.stamp (targets_by_name l.table))
    × (l.fn.stamp ≤ l.stamp)
