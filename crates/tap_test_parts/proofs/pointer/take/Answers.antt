use Rattle.std.proofs.Common.{◌≡◌, sym, subst}
use Rattle.tap_pointer.specs.Pointers.{lay_applied, pointer_at}
use Rattle.tap_pointer.specs.Reconcile.{AreLaidBut, AreNamesHeld}
use Rattle.tap_pointer.proofs.Laws.{lay_applied_lays_others}
use Rattle.tap_pointer.proofs.NamesHeld.{names-lay_applied}
use Rattle.tap_test_parts.proofs.pointer.take.Goals as goal

pub settle-requires-clause-names : goal.settle-requires-clause-names
settle-requires-clause-names g c =
    let settings = c.args.table.now.settings in
    let w = c.args.word.now in
    let pointer = pointer_at w.level w.on in
    let after : c.apply_lay.new.self ≡ lay_applied c.args.pointers.now w.pair w.from w.version pointer =
    rw c.expect.ensures at c.apply_lay.ensures.after in
    subst (AreNamesHeld settings) (sym after)
    (names-lay_applied settings c.args.pointers.now c.requires.names w.pair w.from w.version pointer c.requires.name)

pub settle-requires-clause-others : goal.settle-requires-clause-others
settle-requires-clause-others g c =
    let t = c.args.table.now in
    let w = c.args.word.now in
    let pointer = pointer_at w.level w.on in
    let after : c.apply_lay.new.self ≡ lay_applied c.args.pointers.now w.pair w.from w.version pointer =
    rw c.expect.ensures at c.apply_lay.ensures.after in
    subst (AreLaidBut t w.pair) (sym after)
    (lay_applied_lays_others t w.pair w.from w.version pointer c.args.pointers.now c.requires.laid)
