use Rattle.std.proofs.Common.{◌≡◌, ◌+◌, ◌-◌, ◌^◌, length, take}
use Rattle.std.specs.Prelude.{fold}
use Rattle.tap_report.specs.Printer.{Prints}
use Rattle.tap_report.specs.Reporter.{kept_after}
use Rattle.tap_report.specs.Tally.{CountsWithin}
use Rattle.tap_report.specs.Text.{settings_after, texts_after}
use Rattle.tap_report.proofs.reporter.print_each.Given as goal

abbrev pub invariant-loop-item : goal.invariant-loop-item
invariant-loop-item g l = record {
  text :
      Prints (g.K.Sink.state l.fn.sink) (g.K.Sink.state l.sink) (texts_after l.mode l.fn.settings (take l.item-index l.items))
      l.fn.printer l.printer;
  settings : l.settings ≡ fold settings_after l.fn.settings (take l.item-index l.items);
  tally : l.tally ≡ fold (kept_after l.mode) l.fn.tally (take l.item-index l.items);
  within : CountsWithin (2 ^ 64 - 1 - length l.items + l.item-index) l.tally;
}
