use Rattle.std.proofs.Common.{arith}
use Rattle.toml.specs.View.{table_view}
use Rattle.tap_scenario.proofs.Arrays.{few_strings, many_strings}
use Rattle.tap_scenario.proofs.document.few_strings_at.Goals as goal

pub returns-then-strings-most-clause-value : goal.returns-then-strings-most-clause-value
returns-then-strings-most-clause-value c =
    few_strings c.args.key c.args.most (table_view c.args.table.now) c.in_ok-strings.strings.now c.in_ok-strings.ensures.value
    c.in_ok-strings.ensures.strings (omega arith)

pub returns-else-strings-most-clause-value : goal.returns-else-strings-most-clause-value
returns-else-strings-most-clause-value c =
    many_strings c.args.key c.args.most (table_view c.args.table.now) c.in_ok-strings.strings.now c.in_ok-strings.ensures.value
    c.in_ok-strings.ensures.strings (omega arith)
