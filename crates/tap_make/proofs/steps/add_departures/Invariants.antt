use Rattle.std.proofs.Common.{◌≡◌, [], ◌∷◌, ◌++◌, flat_map}
use Rattle.std.specs.List.{range_with_len}
use Rattle.tap_scenario.specs.declared.step.Step.TheVariants.{Depart, Settle}
use Rattle.tap_make.specs.MadeNames.{newcomer}
use Rattle.tap_make.proofs.steps.add_departures.Given as goal

abbrev pub invariant-loop-i : goal.invariant-loop-i
invariant-loop-i l = l.steps ≡ l.fn.steps ++ flat_map (λ number. Depart (newcomer l.seed number) ∷ Settle ∷ []) (range_with_len 0 l.i)
