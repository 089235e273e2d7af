use Rattle.std.proofs.Common.{◌≡◌, ◌+◌, ◌*◌, ◌++◌, length, map}
use Rattle.std.specs.List.{range_with_len}
use Rattle.tap_make.specs.Draws.{further}
use Rattle.tap_make.specs.MadeSteps.{drawn_walk}
use Rattle.tap_make.proofs.waves.add_walks.Given as goal

abbrev pub invariant-loop-walk : goal.invariant-loop-walk
invariant-loop-walk l = record {
  steps : l.steps ≡ l.fn.steps
      ++ map (λ i. drawn_walk (length l.names.newcomers) l.fn.draws.seed (l.fn.draws.place + 2 * i)) (range_with_len 0 l._walk);
  draws : l.draws ≡ further l.fn.draws (2 * l._walk);
}
