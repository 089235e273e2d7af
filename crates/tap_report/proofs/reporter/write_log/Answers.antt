use Rattle.std.proofs.Common.{◌≡◌, [], None, refl, ap, sym, ◌∙◌}
use Rattle.std.specs.Prelude.{fold}
use Rattle.tap_report.specs.Summary.{ending, numbers_of}
use Rattle.tap_report.specs.Reporter.{kept_after, kept_of}
use Rattle.tap_report.specs.Tally.{tally_of}
use Rattle.tap_report.specs.Text.{settings_so_far, texts_after}
use Rattle.tap_report.proofs.PrintsLemmas.{Prints-then, Prints-written}
use Rattle.tap_report.proofs.TallyLemmas.{ending-kept, kept_of-append, none_kept}
use Rattle.tap_report.proofs.reporter.write_log.Goals as goal

pub returns : goal.returns
returns g c =
    let records = c.args.log.now.records in
    let mode = c.args.mode in
    let each = rw (c.as_slice.ensures, c.new-printer.ensures) at c.print_each.ensures.text in
    let settings : c.print_each.new.settings ≡ settings_so_far records = rw c.as_slice.ensures at c.print_each.ensures.settings in
    let kept : c.print_each.new.tally ≡ fold (kept_after mode) (tally_of []) records =
    rw (c.as_slice.ensures, c.new-tally.ensures) at c.print_each.ensures.tally in
    let tally : c.print_each.new.tally ≡ kept_of mode records =
    kept ∙ ap (λ t. fold (kept_after mode) t records) (sym (none_kept mode)) ∙ sym (kept_of-append mode [] records) in
    let ends = rw (settings, tally, ending-kept mode (settings_so_far records) records) at c.add_ending.ensures in
    let text = Prints-then {text = texts_after mode None records} {more = ending mode (settings_so_far records) (numbers_of records)} each ends in
    Prints-written refl text c.flush.ensures.prints c.flush.ensures.emptied
