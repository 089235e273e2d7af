use Rattle.tap_report.specs.Shapes.{spaced_name}
use Rattle.tap_report.proofs.TextLemmas.{flat_map-take_more}
use Rattle.tap_report.proofs.PrintsLemmas.{◌⨾◌, Prints-none}
use Rattle.tap_report.proofs.printer.Printer.add_names.Goals as goal

pub loop-name-init : goal.loop-name-init
loop-name-init g c = Prints-none _ _

pub loop-name-preserved : goal.loop-name-preserved
loop-name-preserved g c =
    rw (flat_map-take_more spaced_name c.args.names.now c.loop-name.name-index c.name-item.result c.loop-name-test.true c.name-item.is)
    (c.loop-name.invariant ⨾ c.add_name_after.ensures)
