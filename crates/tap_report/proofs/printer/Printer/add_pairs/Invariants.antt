use Rattle.std.proofs.Common.{take}
use Rattle.std.specs.List.{flat_map}
use Rattle.tap_report.specs.Printer.{Prints}
use Rattle.tap_report.specs.Tables.{pointer_line}
use Rattle.tap_report.proofs.printer.Printer.add_pairs.Given as goal

abbrev pub invariant-loop-pair : goal.invariant-loop-pair
invariant-loop-pair g l =
    Prints (g.K.Sink.state l.fn.sink) (g.K.Sink.state l.sink) (flat_map pointer_line (take l.pair-index l.pairs)) l.fn.self l.self
