use Rattle.std.proofs.Common.{◌≡◌, ◌+◌, ◌*◌, ◌++◌, length, min, flat_map}
use Rattle.std.specs.List.{range_with_len}
use Rattle.tap_make.specs.Draws.{further}
use Rattle.tap_make.specs.MadeSteps.{made_wave}
use Rattle.tap_make.proofs.waves.add_waves.Given as goal

abbrev pub invariant-loop-wave : goal.invariant-loop-wave
invariant-loop-wave l = record {
  steps : l.steps ≡ l.fn.steps ++ flat_map (made_wave (length l.names.newcomers) l.fn.draws.seed) (range_with_len 0 l.wave);
  draws : l.draws ≡ further l.fn.draws (min (4 * l.wave) (length l.names.newcomers) + 10 * l.wave);
}
