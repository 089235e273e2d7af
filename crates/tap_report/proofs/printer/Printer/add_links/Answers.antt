use Rattle.tap_report.specs.Tables.{text_of_link}
use Rattle.tap_report.proofs.TextLemmas.{flat_map-take_more}
use Rattle.tap_report.proofs.PrintsLemmas.{◌⨾◌, Prints-none}
use Rattle.tap_report.proofs.printer.Printer.add_links.Goals as goal

pub loop-link-init : goal.loop-link-init
loop-link-init g c = Prints-none _ _

pub loop-link-preserved : goal.loop-link-preserved
loop-link-preserved g c =
    rw (flat_map-take_more text_of_link c.args.links.now c.loop-link.link-index c.link-item.result c.loop-link-test.true c.link-item.is)
    (c.loop-link.invariant ⨾ c.add_link.ensures)
