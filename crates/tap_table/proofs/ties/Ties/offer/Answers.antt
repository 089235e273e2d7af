use Rattle.std.proofs.Common.{sym, subst}
use Rattle.tap_table.specs.Table.{TableValue}
use Rattle.tap_table.specs.Ties.{AreTies, TiesValue}
use Rattle.tap_table.proofs.TiesKept.{AreTies-offered}
use Rattle.tap_table.proofs.ties.Ties.offer.Goals as goal

pub invariant_of-self-2 : goal.invariant_of-self-2
invariant_of-self-2 c =
    let old : TiesValue = record { table = c.self.inside.table; holders = c.self.inside.holders } in
    let Are : TableValue → Type 0 = λ table. AreTies (record old { table = table }) in
    let is_name = rw (← c.self.view_is) at c.requires.name in
    let other = rw (← c.self.view_is) at c.requires.other in
    subst Are (sym c.in_ok-offer.ensures.after) (AreTies-offered old c.args.target c.self.invariant is_name other)
