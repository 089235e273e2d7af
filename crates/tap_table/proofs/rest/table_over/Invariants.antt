use Rattle.std.proofs.Common.{take}
use Rattle.tap_table.proofs.SettledOn.{HasSettled}
use Rattle.tap_table.proofs.rest.table_over.Given as goal

abbrev pub invariant-loop-name : goal.invariant-loop-name
invariant-loop-name l = HasSettled l.settings l.fn.owner (take l.name-index l.names) l.table
