use Rattle.std.proofs.Common.{take, [], ◌∷◌, refl, ap, sym, ◌∙◌}
use Rattle.std.proofs.lemmas.List.Sums.{fold-append}
use Rattle.tap_report.specs.declared.mode.Mode.TheVariants.{Long}
use Rattle.tap_report.specs.Text.{settings_after}
use Rattle.tap_report.proofs.PrintsLemmas.{◌⨾◌, Prints-none}
use Rattle.tap_report.proofs.TextLemmas.{ArePrintable-at, take_next, texts_after-push}
use Rattle.tap_report.proofs.reporter.print_lines.Goals as goal

pub add_lines-requires : goal.add_lines-requires
add_lines-requires g c =
    rw c.loop-item.invariant.settings
    (ArePrintable-at c.args.settings.now c.args.items.now c.loop-item.item-index c.item-item.result c.requires c.loop-item-test.true
    c.item-item.is)

pub loop-item-init : goal.loop-item-init
loop-item-init g c = record {
  text = Prints-none _ _;
  settings = refl;
}

pub loop-item-preserved : goal.loop-item-preserved
loop-item-preserved g c =
    let items = c.args.items.now in
    let i = c.loop-item.item-index in
    let item = c.item-item.result in
    let was = c.loop-item.invariant in
    let first = take i items in
    let next = take_next items i item c.loop-item-test.true c.item-item.is in
    rw (next, c.keep_settings.ensures) (record {
      text = rw (texts_after-push Long c.args.settings.now first item) (was.text ⨾ rw was.settings at c.add_lines.ensures);
      settings = ap (λ s. settings_after s item) was.settings ∙ sym (fold-append settings_after c.args.settings.now first (item ∷ []));
    })
