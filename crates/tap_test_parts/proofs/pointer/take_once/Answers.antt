use Rattle.std.proofs.Common.{◌≡◌, sym, subst}
use Rattle.tap_pointer.specs.Pointers.{PointersValue, lay_applied, pointer_at}
use Rattle.tap_pointer.specs.Reconcile.{AreLaid, AreNamesHeld, reconciled}
use Rattle.tap_pointer.proofs.Laws.{reconciled_is_laid}
use Rattle.tap_pointer.proofs.NamesHeld.{names-lay_applied, names-reconciled}
use Rattle.tap_test_parts.proofs.pointer.take_once.Goals as goal

pub returns-clause-names : goal.returns-clause-names
returns-clause-names g c =
    let settings = c.args.table.now.settings in
    let w = c.args.word.now in
    let pointer = pointer_at w.level w.on in
    let taken : PointersValue = lay_applied c.args.pointers.now w.pair w.from w.version pointer in
    let after : c.take_lay.new.self ≡ reconciled c.args.table.now taken = rw c.expect.ensures at c.take_lay.ensures.after in
    subst (AreNamesHeld settings) (sym after)
    (names-reconciled settings taken
    (names-lay_applied settings c.args.pointers.now c.requires.names w.pair w.from w.version pointer c.requires.name)
    c.args.table.now)

pub returns-clause-laid : goal.returns-clause-laid
returns-clause-laid g c =
    let w = c.args.word.now in
    let pointer = pointer_at w.level w.on in
    let taken : PointersValue = lay_applied c.args.pointers.now w.pair w.from w.version pointer in
    let after : c.take_lay.new.self ≡ reconciled c.args.table.now taken = rw c.expect.ensures at c.take_lay.ensures.after in
    subst (AreLaid c.args.table.now) (sym after) (reconciled_is_laid c.args.table.now taken)
