use Rattle.std.proofs.Common.{take}
use Rattle.std.specs.List.{flat_map}
use Rattle.tap_report.specs.Printer.{Prints}
use Rattle.tap_report.specs.Starts.{member_line}
use Rattle.tap_report.proofs.printer.Printer.add_members.Given as goal

abbrev pub invariant-loop-name : goal.invariant-loop-name
invariant-loop-name g l =
    Prints (g.K.Sink.state l.fn.sink) (g.K.Sink.state l.sink) (flat_map member_line (take l.name-index l.members)) l.fn.self l.self
