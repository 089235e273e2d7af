use Rattle.tap_report.specs.Tables.{pointer_line}
use Rattle.tap_report.proofs.TextLemmas.{flat_map-take_more}
use Rattle.tap_report.proofs.PrintsLemmas.{◌⨾◌, Prints-none}
use Rattle.tap_report.proofs.printer.Printer.add_pairs.Goals as goal

pub loop-pair-init : goal.loop-pair-init
loop-pair-init g c = Prints-none _ _

pub loop-pair-preserved : goal.loop-pair-preserved
loop-pair-preserved g c =
    rw (flat_map-take_more pointer_line c.args.pairs.now c.loop-pair.pair-index c.pair-item.result c.loop-pair-test.true c.pair-item.is)
    (c.loop-pair.invariant ⨾ c.add_pair.ensures)
