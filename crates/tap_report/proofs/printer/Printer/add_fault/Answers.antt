use Rattle.tap_report.proofs.printer.Printer.add_fault.Goals as goal

pub returns-in-BadVersion : goal.returns-in-BadVersion
returns-in-BadVersion g c = rw c.in-BadVersion.is c.add_number_after-in-BadVersion.ensures
