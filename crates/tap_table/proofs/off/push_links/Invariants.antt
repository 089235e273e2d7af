use Rattle.std.proofs.Common.{◌≡◌, ◌+◌, ◌++◌, drop}
use Rattle.tap_table.specs.ByName.{targets_of}
use Rattle.tap_table.specs.Ties.{off_ties}
use Rattle.tap_table.proofs.off.push_links.Given as goal

abbrev pub invariant-loop-at : goal.invariant-loop-at
invariant-loop-at l =
    let targets = targets_of l.set.links in
    (l.stamp ≡ l.fn.stamp + l.at)
    × (l.words.items ++ off_ties l.stamp (drop l.at targets) ≡ l.fn.words.items ++ off_ties l.fn.stamp targets)
