use Rattle.tap_bench.specs.Settled.{AreSettled}
use Rattle.tap_bench.proofs.pairs.change.Given as goal

abbrev pub invariant-loop-turn : goal.invariant-loop-turn
invariant-loop-turn l = AreSettled l.table l.pointers
