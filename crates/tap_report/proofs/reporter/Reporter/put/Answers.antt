use Rattle.std.proofs.Common.{ap, refl}
use Rattle.tap_report.specs.Printer.{PrinterValue}
use Rattle.tap_report.proofs.PrintsLemmas.{Prints-written}
use Rattle.tap_report.proofs.TallyLemmas.{CountsWithin-kept}
use Rattle.tap_report.proofs.reporter.Reporter.put.Goals as goal

pub invariant_of-self : goal.invariant_of-self
invariant_of-self g c = record {
  counts = rw c.keep_for_summary.ensures (CountsWithin-kept c.self.inside.mode c.self.inside.records c.self.inside.tally c.args.item.now c.self.invariant.counts);
  written = ap (λ (p : PrinterValue). p.waiting) c.flush-written.ensures.emptied;
}

pub returns : goal.returns
returns g c =
    let text = Prints-written c.self.invariant.written c.add_record.ensures c.flush-written.ensures.prints c.flush-written.ensures.emptied in
    rw (← c.self.view_is, c.keep_settings.ensures, c.keep_for_summary.ensures, c.flush-written.ensures.emptied)
    (record { text = text; reporter = refl })
