use Rattle.std.proofs.Common.{◌≤◌, ◌-◌, length, take}
use Rattle.hex.specs.Hex.{encode_lower}
use Rattle.tap_report.specs.Printer.{Prints}
use Rattle.tap_report.proofs.printer.Printer.add_long_hex.Given as goal

abbrev pub invariant-loop-done : goal.invariant-loop-done
invariant-loop-done g l = record {
  within : l.done ≤ length l.bytes;
  text : Prints (g.K.Sink.state l.fn.sink) (g.K.Sink.state l.sink) (encode_lower (take l.done l.bytes)) l.fn.self l.self;
}

abbrev pub decreases-loop-done : goal.decreases-loop-done
decreases-loop-done g l = length l.bytes - l.done
