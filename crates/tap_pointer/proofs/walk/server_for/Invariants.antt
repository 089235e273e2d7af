use Rattle.std.proofs.Common.{◌≡◌}
use Rattle.tap_pointer.specs.Pointers.{server_among}
use Rattle.tap_pointer.proofs.Lookups.{AreGathered}
use Rattle.tap_pointer.proofs.walk.server_for.Given as goal

abbrev pub invariant-loop-pair : goal.invariant-loop-pair
invariant-loop-pair l =
    (server_among l.pair-iterator l.object ≡ server_among l.pairs.entries l.object) × AreGathered l.object l.pair-iterator
