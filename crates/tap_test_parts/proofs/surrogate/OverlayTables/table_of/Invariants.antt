use Rattle.std.proofs.Common.{◌≡◌, drop, find, nat_eq}
use Rattle.std.specs.Cmp.Lexicographic.{pointwise}
use Rattle.tap_test_parts.proofs.surrogate.OverlayTables.table_of.Given as goal

abbrev pub invariant-loop-table : goal.invariant-loop-table
invariant-loop-table l =
    find (λ t. pointwise nat_eq t.now.owner l.name) l.self.tables.items
    ≡ find (λ t. pointwise nat_eq t.now.owner l.name) (drop l.table-index l.self.tables.items)
