use Rattle.std.proofs.Common.{take}
use Rattle.std.specs.List.{flat_map}
use Rattle.tap_report.specs.Printer.{Prints}
use Rattle.tap_report.specs.Tables.{text_of_link}
use Rattle.tap_report.proofs.printer.Printer.add_links.Given as goal

abbrev pub invariant-loop-link : goal.invariant-loop-link
invariant-loop-link g l =
    Prints (g.K.Sink.state l.fn.sink) (g.K.Sink.state l.sink) (flat_map text_of_link (take l.link-index l.links)) l.fn.self l.self
