use Rattle.std.proofs.Common.{◌<◌, length, arith, ap, sym, ◌∙◌}
use Rattle.tap_table.specs.Row.{row_of}
use Rattle.tap_table.proofs.RowLists.{left_first, slots_len}
use Rattle.tap_table.proofs.rows.RowsIterator.next.Goals as goal

pub returns-then-self-len-clause-steps : goal.returns-then-self-len-clause-steps
returns-then-self-len-clause-steps c =
    let now = c.loop-self.self-inside in
    let t = now.table.now in
    let sets = c.sets-sets.result.now in
    let same = ap (λ u. length u.slots) c.loop-self.invariant.0 in
    let len = slots_len c.self.inside.table.now sets (sym c.sets-sets.ensures) in
    let within : now.number < length t.slots = omega (arith, same, len, c.loop-self-test.true) in
    sym c.self.view_is ∙ sym c.loop-self.invariant.1 ∙ left_first t now.number now.link (row_of c.row-row.result) within c.row-row.ensures
