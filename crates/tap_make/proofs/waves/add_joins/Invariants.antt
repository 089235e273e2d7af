use Rattle.std.proofs.Common.{◌≡◌, ◌+◌, ◌++◌, map}
use Rattle.std.specs.List.{range_with_len}
use Rattle.tap_scenario.specs.declared.step.Step.TheVariants.{Join}
use Rattle.tap_make.specs.Draws.{further}
use Rattle.tap_make.specs.MadeNames.{drawn_member, newcomer}
use Rattle.tap_make.proofs.waves.add_joins.Given as goal

abbrev pub invariant-loop-i : goal.invariant-loop-i
invariant-loop-i l = record {
  steps : l.steps ≡ l.fn.steps
      ++ map (λ i. Join (newcomer l.fn.draws.seed (l.first + i)) (drawn_member l.fn.draws.seed (l.fn.draws.place + i)))
      (range_with_len 0 l.i);
  draws : l.draws ≡ further l.fn.draws l.i;
}
