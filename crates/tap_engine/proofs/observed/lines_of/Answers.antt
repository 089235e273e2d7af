use Rattle.std.proofs.Common.{map}
use Rattle.tap_table.specs.Row.{row_of}
use Rattle.tap_table.specs.Table.{rows}
use Rattle.tap_runs.specs.Observed.{link_line}
use Rattle.tap_engine.proofs.Mapped.{one_more}
use Rattle.tap_engine.proofs.observed.lines_of.Goals as goal

pub loop-row-preserved : goal.loop-row-preserved
loop-row-preserved c =
    one_more link_line (row_of c.in-Some.row) c.loop-row.row-iterator c.next.new.self c.loop-row.lines c.push.new.self
    (map link_line (rows c.args.table.now)) c.in-Some.ensures.steps c.loop-row.invariant
    (rw (← c.link_line.ensures) c.in_ok-push.ensures.ok)
