use Rattle.std.proofs.Common.{arith, length-append, ◌∷◌, [], ◌∙◌}
use Rattle.tap_report.specs.Text.{settings_so_far}
use Rattle.tap_report.proofs.ReportsLemmas.{IsPrintableLog-push}
use Rattle.tap_report.proofs.TextLemmas.{same_settings, settings_so_far-push}
use Rattle.tap_test_texts.proofs.report_checks.log_of.Goals as goal

pub loop-item-preserved : goal.loop-item-preserved
loop-item-preserved g c =
    let records = c.loop-item.log.records in
    let item = c.in-Some.item in
    let was = c.loop-item.invariant in
    let other = c.check_follows.ensures.other in
    rw c.add-in-loop-item.ensures (record {
      printable = IsPrintableLog-push records item was.begun other (rw was.settings c.check_follows.ensures.printable) was.printable;
      begun = omega (arith, length-append records (item ∷ []));
      settings = settings_so_far-push records item ∙ same_settings (settings_so_far records) item other ∙ was.settings;
    })
