use Rattle.std.proofs.Common.{sym, subst}
use Rattle.tap_table.specs.Table.{TableValue}
use Rattle.tap_table.specs.Ties.{AreTies, TiesValue}
use Rattle.tap_table.proofs.TiesKept.{AreTies-released}
use Rattle.tap_table.proofs.ties.Ties.release.Goals as goal

pub invariant_of-self : goal.invariant_of-self
invariant_of-self c =
    let old : TiesValue = record { table = c.self.inside.table; holders = c.self.inside.holders } in
    let Are : TableValue → Type 0 = λ table. AreTies (record old { table = table }) in
    let is_name = rw (← c.self.view_is) at c.requires.name in
    let other = rw (← c.self.view_is) at c.requires.other in
    subst Are (sym c.release.ensures.after) (AreTies-released old c.args.by.from c.self.invariant is_name other)
