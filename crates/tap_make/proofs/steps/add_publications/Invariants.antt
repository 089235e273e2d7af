use Rattle.std.proofs.Common.{◌≡◌, ◌++◌, length, map}
use Rattle.std.specs.List.{range_with_len}
use Rattle.tap_make.specs.Draws.{further}
use Rattle.tap_make.specs.MadeSteps.{made_publication}
use Rattle.tap_make.proofs.steps.add_publications.Given as goal

abbrev pub invariant-loop-i : goal.invariant-loop-i
invariant-loop-i l = record {
  steps : l.steps ≡ l.fn.steps ++ map (made_publication (length l.names.newcomers) l.fn.draws.seed) (range_with_len 0 l.i);
  draws : l.draws ≡ further l.fn.draws l.i;
}
