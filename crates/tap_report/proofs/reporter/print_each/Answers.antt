use Rattle.std.proofs.Common.{take, [], ◌∷◌, refl, ap, sym, arith, ◌∙◌}
use Rattle.std.proofs.lemmas.List.Sums.{fold-append}
use Rattle.tap_report.specs.Reporter.{kept_after}
use Rattle.tap_report.specs.Text.{settings_after}
use Rattle.tap_report.proofs.PrintsLemmas.{◌⨾◌, Prints-none}
use Rattle.tap_report.proofs.TallyLemmas.{CountsWithin-kept, CountsWithin-more, nothing_kept}
use Rattle.tap_report.proofs.TextLemmas.{ArePrintable-at, take_next, texts_after-push}
use Rattle.tap_report.proofs.reporter.print_each.Goals as goal

pub returns-in-Long-clause-tally : goal.returns-in-Long-clause-tally
returns-in-Long-clause-tally g c = rw c.in-Long.is (sym (nothing_kept c.args.tally.now c.args.items.now))

pub add_record-requires : goal.add_record-requires
add_record-requires g c =
    rw c.loop-item.invariant.settings
    (ArePrintable-at c.args.settings.now c.args.items.now c.loop-item.item-index c.item-item.result c.requires.printable c.loop-item-test.true
    c.item-item.is)

pub loop-item-init : goal.loop-item-init
loop-item-init g c = record {
  text = Prints-none _ _;
  settings = refl;
  tally = refl;
  within = CountsWithin-more _ _ _ (omega arith) c.requires.counts;
}

pub loop-item-preserved : goal.loop-item-preserved
loop-item-preserved g c =
    let items = c.args.items.now in
    let i = c.loop-item.item-index in
    let item = c.item-item.result in
    let was = c.loop-item.invariant in
    let first = take i items in
    let next = take_next items i item c.loop-item-test.true c.item-item.is in
    rw (next, c.keep_settings.ensures, c.keep_for_summary.ensures) (record {
      text = rw (texts_after-push c.args.mode c.args.settings.now first item) (was.text ⨾ rw was.settings at c.add_record.ensures);
      settings = ap (λ s. settings_after s item) was.settings ∙ sym (fold-append settings_after c.args.settings.now first (item ∷ []));
      tally =
          ap (λ t. kept_after c.args.mode t item) was.tally
          ∙ sym (fold-append (kept_after c.args.mode) c.args.tally.now first (item ∷ []));
      within = CountsWithin-more _ _ _ (omega arith) (CountsWithin-kept c.args.mode _ c.loop-item.tally item was.within);
    })
