use Rattle.std.proofs.Common.{◌≡◌}
use Rattle.tap_pointer.specs.Reconcile.{AreLaid, AreNamesHeld}
use Rattle.tap_test_parts.proofs.pointer.check.Given as goal

abbrev pub invariant-loop-act : goal.invariant-loop-act
invariant-loop-act g l = record {
  owner : l.table.owner ≡ l.pointers.owner;
  names : AreNamesHeld l.table.settings l.pointers;
  laid : AreLaid l.table l.pointers;
}
