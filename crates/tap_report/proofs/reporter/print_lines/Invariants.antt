use Rattle.std.proofs.Common.{◌≡◌, take}
use Rattle.std.specs.Prelude.{fold}
use Rattle.tap_report.specs.Printer.{Prints}
use Rattle.tap_report.specs.declared.mode.Mode.TheVariants.{Long}
use Rattle.tap_report.specs.Text.{settings_after, texts_after}
use Rattle.tap_report.proofs.reporter.print_lines.Given as goal

abbrev pub invariant-loop-item : goal.invariant-loop-item
invariant-loop-item g l = record {
  text :
      Prints (g.K.Sink.state l.fn.sink) (g.K.Sink.state l.sink) (texts_after Long l.fn.settings (take l.item-index l.items))
      l.fn.printer l.printer;
  settings : l.settings ≡ fold settings_after l.fn.settings (take l.item-index l.items);
}
