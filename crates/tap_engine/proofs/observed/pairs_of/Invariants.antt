use Rattle.std.proofs.Common.{◌≡◌, ◌++◌, map}
use Rattle.tap_pointer.specs.Pointers.{pairs_held}
use Rattle.tap_runs.specs.Observed.{pair_line}
use Rattle.tap_engine.proofs.observed.pairs_of.Given as goal

abbrev pub invariant-loop-pair : goal.invariant-loop-pair
invariant-loop-pair l = l.pairs ++ map pair_line l.pair-iterator ≡ map pair_line (pairs_held l.pointers)
