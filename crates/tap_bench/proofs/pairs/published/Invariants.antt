use Rattle.tap_bench.specs.Settled.{AreSettled}
use Rattle.tap_bench.proofs.pairs.published.Given as goal

abbrev pub invariant-loop-number : goal.invariant-loop-number
invariant-loop-number l = AreSettled l.table l.pointers
