use Rattle.std.proofs.Common.{◌≡◌, ◌-◌, ◌<◌}
use Rattle.tap_name.specs.Cyclic.{first_from}
use Rattle.tap_table.specs.Next.{can_take}
use Rattle.tap_table.proofs.table.Table.taken_digit.Given as goal

abbrev pub invariant-loop-tried : goal.invariant-loop-tried
invariant-loop-tried l = record {
  below : l.digit < l.base;
  same : first_from l.base (can_take l.self l.level) (l.base - l._tried) l.digit
      ≡ first_from l.base (can_take l.self l.level) l.base l.wanted;
}
