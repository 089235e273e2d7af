use Rattle.std.proofs.Common.{◌≡◌, ◌∙◌, ◌+◌, ◌*◌, ◌++◌, ap, arith, flat_map, length, min}
use Rattle.std.specs.List.{range_with_len}
use Rattle.tap_make.specs.Draws.{DrawsValue, further}
use Rattle.tap_make.specs.MadeSteps.{made_wave, wave_count, wave_size}
use Rattle.tap_make.proofs.LoopLists.{more_flat}
use Rattle.tap_make.proofs.Naming.{further_more, place_is, same_names}
use Rattle.tap_make.proofs.waves.add_waves.Goals as goal

pub add_wave-requires-clause-names : goal.add_wave-requires-clause-names
add_wave-requires-clause-names c =
    let joins = length c.args.names.now.newcomers in
    same_names joins (min (4 * c.loop-wave.wave) joins + 10 * c.loop-wave.wave) c.args.names.now c.args.draws.now c.loop-wave.draws
    c.loop-wave.invariant.draws c.requires.names

pub add_wave-requires-clause-place : goal.add_wave-requires-clause-place
add_wave-requires-clause-place c =
    let joins = length c.args.names.now.newcomers in
    let at = place_is c.args.draws.now c.loop-wave.draws (min (4 * c.loop-wave.wave) joins + 10 * c.loop-wave.wave)
    c.loop-wave.invariant.draws in
    omega arith

pub loop-wave-preserved : goal.loop-wave-preserved
loop-wave-preserved c =
    let joins = length c.args.names.now.newcomers in
    let seed = c.args.draws.now.seed in
    let i = c.loop-wave.wave in
    let same : c.loop-wave.draws.seed ≡ seed = ap (λ (d : DrawsValue). d.seed) c.loop-wave.invariant.draws in
    record {
      steps = more_flat (made_wave joins seed) c.args.steps.now c.loop-wave.steps c.add_wave.new.steps
          (made_wave joins c.loop-wave.draws.seed i) i c.loop-wave.invariant.steps c.in_ok-add_wave.ensures.steps
          (ap (λ s. made_wave joins s i) same);
      draws = further_more c.args.draws.now c.loop-wave.draws c.add_wave.new.draws (min (4 * i) joins + 10 * i) (wave_size joins i + 10)
          (min (4 * (i + 1)) joins + 10 * (i + 1)) c.loop-wave.invariant.draws c.in_ok-add_wave.ensures.draws (omega arith);
    }

pub returns-clause-steps : goal.returns-clause-steps
returns-clause-steps c =
    let joins = length c.args.names.now.newcomers in
    let all : c.loop-wave.wave ≡ wave_count joins = omega arith in
    c.loop-wave.invariant.steps ∙ ap (λ n. c.args.steps.now ++ flat_map (made_wave joins c.args.draws.now.seed) (range_with_len 0 n)) all

pub returns-clause-draws : goal.returns-clause-draws
returns-clause-draws c =
    let joins = length c.args.names.now.newcomers in
    let all : min (4 * c.loop-wave.wave) joins + 10 * c.loop-wave.wave ≡ joins + 10 * wave_count joins = omega arith in
    c.loop-wave.invariant.draws ∙ ap (further c.args.draws.now) all
