use Rattle.std.proofs.Common.{ap, refl}
use Rattle.tap_report.specs.Printer.{PrinterValue}
use Rattle.tap_report.proofs.PrintsLemmas.{Prints-written}
use Rattle.tap_report.proofs.TallyLemmas.{CountsWithin-fold}
use Rattle.tap_report.proofs.reporter.Reporter.put_all.Goals as goal

pub invariant_of-self : goal.invariant_of-self
invariant_of-self g c = record {
  counts = rw c.print_each.ensures.tally
      (CountsWithin-fold c.self.inside.mode c.self.inside.records c.self.inside.tally c.args.items.now c.self.invariant.counts);
  written = ap (λ (p : PrinterValue). p.waiting) c.flush.ensures.emptied;
}

pub returns : goal.returns
returns g c =
    let text = Prints-written c.self.invariant.written c.print_each.ensures.text c.flush.ensures.prints c.flush.ensures.emptied in
    rw (← c.self.view_is, c.print_each.ensures.settings, c.print_each.ensures.tally, c.flush.ensures.emptied)
    (record { text = text; reporter = refl })
