use Rattle.std.proofs.Common.{ap, refl}
use Rattle.tap_report.specs.Printer.{PrinterValue}
use Rattle.tap_report.proofs.PrintsLemmas.{Prints-written}
use Rattle.tap_report.proofs.reporter.Reporter.finish.Goals as goal

pub invariant_of-self : goal.invariant_of-self
invariant_of-self g c = record {
  counts = c.self.invariant.counts;
  written = ap (λ (p : PrinterValue). p.waiting) c.flush.ensures.emptied;
}

pub returns : goal.returns
returns g c =
    let text = Prints-written c.self.invariant.written c.add_ending.ensures c.flush.ensures.prints c.flush.ensures.emptied in
    rw (← c.self.view_is, c.flush.ensures.emptied) (record { text = text; reporter = refl })
