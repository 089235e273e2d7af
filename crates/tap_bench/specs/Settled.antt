-- The pointers of a node between the calls that are timed.
use Rattle.std.specs.Prelude.{◌≡◌}
use Rattle.tap_pointer.specs.Pointers.{PointersValue}
use Rattle.tap_pointer.specs.Reconcile.{AreLaid, AreNamesHeld}
use Rattle.tap_table.specs.Table.{TableValue}

-- the pointers are those of the table's owner, and each is of a name and is laid as wanted
pub record AreSettled (t : TableValue) (p : PointersValue) : Type 0 where
  pub owner : t.owner ≡ p.owner
  pub names : AreNamesHeld t.settings p
  pub laid : AreLaid t p
