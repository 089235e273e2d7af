use Rattle.std.proofs.Common.{◌≡◌, ◌&&◌, nat_le, true, false, length, arith, Ok, rules}
use Rattle.std.proofs.lemmas.Bool.Decides.{nat_tests}
use Rattle.toml.specs.View.{table_view, items_view}
use Rattle.tap_scenario.specs.declared.fault.Key.TheVariants.{Members}
use Rattle.tap_scenario.specs.Document.{read_at}
use Rattle.tap_scenario.specs.Scenario.{most_members}
use Rattle.tap_scenario.specs.Value.{are_strings, texts_of, array_of_strings}
use Rattle.tap_scenario.proofs.Members.{members_of_table-count, members_of_table-names}
use Rattle.tap_scenario.proofs.document.read_members.Goals as goal
use Rattle.tap_scenario.proofs.document.read_members.Goals.{then-is_empty-via-then-is_empty, then-is_empty-via-else-is_empty+then-strings-gt-MOST_MEMBERS}

pub returns-then-is_empty : goal.returns-then-is_empty
returns-then-is_empty c =
    let values = c.in_ok-strings.strings.now in
    let is : read_at Members array_of_strings (table_view c.args.table.now)
    ≡ Ok (texts_of (items_view values)) = c.in_ok-strings.ensures.value in
    let strings : are_strings (items_view values) ≡ true = c.in_ok-strings.ensures.strings in
    let empty = c.is_empty.ensures in
    elim c.then-is_empty.branch [
      | then-is_empty-via-then-is_empty w ↦
          let none : (nat_le 1 (length values) && nat_le (length values) most_members) ≡ false =
          let e = w.if-is_empty.true in grind (arith, nat_tests) in
          members_of_table-count c.args.settings.now (table_view c.args.table.now) values is strings none
      | then-is_empty-via-else-is_empty+then-strings-gt-MOST_MEMBERS w ↦
          let many : (nat_le 1 (length values) && nat_le (length values) most_members) ≡ false =
          let e = w.if-strings-gt-MOST_MEMBERS.true in grind (arith, nat_tests) in
          members_of_table-count c.args.settings.now (table_view c.args.table.now) values is strings many
    ]

pub returns : goal.returns
returns c =
    let values = c.in_ok-strings.strings.now in
    let is : read_at Members array_of_strings (table_view c.args.table.now)
    ≡ Ok (texts_of (items_view values)) = c.in_ok-strings.ensures.value in
    let strings : are_strings (items_view values) ≡ true = c.in_ok-strings.ensures.strings in
    let count : (nat_le 1 (length values) && nat_le (length values) most_members) ≡ true = let e = c.if-is_empty.false in
    let f = c.is_empty.ensures in grind (arith, nat_tests) in
    members_of_table-names c.args.settings.now (table_view c.args.table.now) values c.in_ok-names.names is strings count
    c.in_ok-names.ensures (search rules)
