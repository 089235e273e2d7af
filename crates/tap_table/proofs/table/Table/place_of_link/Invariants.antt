use Rattle.tap_table.proofs.RowLists.{IsRest}
use Rattle.tap_table.proofs.table.Table.place_of_link.Given as goal

abbrev pub invariant-loop-number : goal.invariant-loop-number
invariant-loop-number l = IsRest l.self l.i l.number l.link
