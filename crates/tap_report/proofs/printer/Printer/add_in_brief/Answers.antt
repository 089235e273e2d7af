use Rattle.std.proofs.Common.{sym, ◌∙◌}
use Rattle.tap_report.specs.declared.mode.Mode.TheVariants.{Brief}
use Rattle.tap_report.proofs.PrintsLemmas.{Prints-empty}
use Rattle.tap_report.proofs.TextLemmas.{no_lines_of_record}
use Rattle.tap_report.proofs.printer.Printer.add_in_brief.Goals as goal

pub returns-else-is_in_brief : goal.returns-else-is_in_brief
returns-else-is_in_brief g c =
    Prints-empty (no_lines_of_record Brief c.args.settings.now c.args.item.now (sym c.is_in_brief.ensures ∙ c.if-is_in_brief.false))
