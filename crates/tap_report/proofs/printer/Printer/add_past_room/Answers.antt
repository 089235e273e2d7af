use Rattle.std.proofs.Common.{◌≡◌, [], take, ap, ◌∙◌}
use Rattle.tap_report.specs.Printer.{PrinterValue}
use Rattle.tap_report.proofs.PrintsLemmas.{Prints-at_once, Prints-then}
use Rattle.tap_report.proofs.printer.Printer.add_past_room.Goals as goal

pub returns : goal.returns
returns g c =
    let none : take c.self.inside.len c.self.inside.room ≡ [] =
    ap (λ (p : PrinterValue). p.waiting) (c.self.view_is ∙ c.flush-before.ensures.emptied) in
    let flushed = rw c.flush-before.ensures.emptied at c.flush-before.ensures.prints in
    rw none (Prints-then flushed (Prints-at_once c.write_text-self-inside.ensures))
