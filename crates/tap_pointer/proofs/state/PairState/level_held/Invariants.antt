use Rattle.std.proofs.Common.{◌≡◌, min, drop}
use Rattle.std.specs.List.{reduce}
use Rattle.tap_pointer.specs.Pointers.{levels_on}
use Rattle.tap_pointer.proofs.Levels.{least_with}
use Rattle.tap_pointer.proofs.state.PairState.level_held.Given as goal

abbrev pub invariant-loop-register : goal.invariant-loop-register
invariant-loop-register l =
    least_with l.least (levels_on (drop l.register-index l.register-items)) ≡ reduce min (levels_on l.register-items)
