use Rattle.std.proofs.Common.{◌≡◌}
use Rattle.tap_bench.proofs.pairs.full.Given as goal

abbrev pub invariant-loop-number : goal.invariant-loop-number
invariant-loop-number l = record { owner : l.table.owner ≡ l.fn.owner; settings : l.table.settings ≡ l.settings }
