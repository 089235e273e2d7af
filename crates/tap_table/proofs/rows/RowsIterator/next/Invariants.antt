use Rattle.std.proofs.Common.{◌≡◌, ◌-◌, ◌≤◌, [], get_or, length}
use Rattle.tap_table.specs.Row.{rows_left}
use Rattle.tap_table.proofs.rows.RowsIterator.next.Given as goal

abbrev pub invariant-loop-self : goal.invariant-loop-self
invariant-loop-self l =
    let now = l.self-inside in
    let was = l.initial.self-inside in
    (now.table.now ≡ was.table.now)
    × (rows_left now.table.now now.number now.link ≡ rows_left was.table.now was.number was.link)
    × (now.link ≤ length (get_or now.table.now.slots now.number []))

abbrev pub decreases-loop-self : goal.decreases-loop-self
decreases-loop-self l = length l.self-inside.table.now.slots - l.self-inside.number
