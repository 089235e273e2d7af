use Rattle.std.proofs.Common.{◌≡◌, ◌++◌, map}
use Rattle.tap_table.specs.Table.{rows}
use Rattle.tap_runs.specs.Observed.{link_line}
use Rattle.tap_engine.proofs.observed.lines_of.Given as goal

abbrev pub invariant-loop-row : goal.invariant-loop-row
invariant-loop-row l = l.lines ++ map link_line l.row-iterator ≡ map link_line (rows l.table)
