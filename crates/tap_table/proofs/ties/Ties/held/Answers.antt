use Rattle.std.proofs.Common.{ℕ, Bool, List, sym, subst}
use Rattle.tap_register.specs.declared.registers.Entry.{Entry}
use Rattle.tap_table.specs.Ties.{AreTies, TiesValue}
use Rattle.tap_table.proofs.TiesKept.{AreTies-held_word}
use Rattle.tap_table.proofs.ties.Ties.held.Goals as goal

pub invariant_of-self-2 : goal.invariant_of-self-2
invariant_of-self-2 c =
    let old : TiesValue = record { table = c.self.inside.table; holders = c.self.inside.holders } in
    let Are : List (Entry (List ℕ) Bool) → Type 0 = λ holders. AreTies (record old { holders = holders }) in
    let is_name = rw (← c.self.view_is) at c.requires.name in
    let other = rw (← c.self.view_is) at c.requires.other in
    subst Are (sym c.in_ok-apply.ensures.after)
    (AreTies-held_word old c.args.holder c.self.invariant is_name other c.args.version c.args.on)
