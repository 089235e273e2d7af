use Rattle.std.proofs.Common.{length, arith, ap}
use Rattle.tap_table.specs.Table.{rows}
use Rattle.tap_table.specs.Ties.{TiesValue}
use Rattle.tap_table.proofs.Targets.{few_by_name}
use Rattle.tap_table.proofs.ties.Ties.off_ties.Goals as goal

pub off_ties-requires : goal.off_ties-requires
off_ties-requires c =
    let few = few_by_name c.self.inside.table c.self.invariant.table in
    let same = ap (λ (t : TiesValue). length (rows t.table)) c.self.view_is in
    omega (arith, c.requires.numbers, few, same)
