use Rattle.std.proofs.Common.{◌≡◌, ◌*◌, [], ◌∷◌, ◌++◌, length, flat_map}
use Rattle.std.specs.List.{range_with_len}
use Rattle.tap_scenario.specs.declared.step.Step.TheVariants.{Settle}
use Rattle.tap_make.specs.Draws.{further}
use Rattle.tap_make.specs.MadeSteps.{made_lookup}
use Rattle.tap_make.proofs.steps.add_lookups.Given as goal

abbrev pub invariant-loop-lookup : goal.invariant-loop-lookup
invariant-loop-lookup l = record {
  steps : l.steps ≡ l.fn.steps
      ++ flat_map (λ number. made_lookup (length l.names.newcomers) l.fn.draws.seed number ∷ Settle ∷ []) (range_with_len 0 l._lookup);
  draws : l.draws ≡ further l.fn.draws (2 * l._lookup);
}
