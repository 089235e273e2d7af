use Rattle.std.proofs.Common.{◌≡◌, sym, subst}
use Rattle.tap_pointer.specs.Reconcile.{AreNamesHeld, reconciled}
use Rattle.tap_pointer.proofs.NamesHeld.{names-reconciled}
use Rattle.tap_test_parts.proofs.pointer.settle.Goals as goal

pub returns-clause-names : goal.returns-clause-names
returns-clause-names g c =
    let settings = c.args.table.now.settings in
    let after : c.reconcile_pair.new.self ≡ reconciled c.args.table.now c.args.pointers.now = rw c.expect.ensures at c.reconcile_pair.ensures.after in
    subst (AreNamesHeld settings) (sym after) (names-reconciled settings c.args.pointers.now c.requires.names c.args.table.now)
