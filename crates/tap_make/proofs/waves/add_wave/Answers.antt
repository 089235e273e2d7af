use Rattle.std.proofs.Common.{◌≡◌, ◌+◌, arith, length}
use Rattle.tap_make.specs.MadeSteps.{wave_size}
use Rattle.tap_make.proofs.Naming.{further_more, place_is, same_names}
use Rattle.tap_make.proofs.Scripted.{wave_made}
use Rattle.tap_make.proofs.waves.add_wave.Goals as goal

pub add_walks-requires-clause-names : goal.add_walks-requires-clause-names
add_walks-requires-clause-names c =
    same_names (length c.args.names.now.newcomers) c.min-size.result c.args.names.now c.args.draws.now c.add_joins.new.draws
    c.in_ok-add_joins.ensures.draws c.requires.names

pub add_walks-requires-clause-place : goal.add_walks-requires-clause-place
add_walks-requires-clause-place c =
    let at = place_is c.args.draws.now c.add_joins.new.draws c.min-size.result c.in_ok-add_joins.ensures.draws in
    omega arith

pub returns-clause-steps : goal.returns-clause-steps
returns-clause-steps c =
    let joins = length c.args.names.now.newcomers in
    let size : c.min-size.result ≡ wave_size joins c.args.wave = omega arith in
    wave_made joins c.args.wave c.min-size.result c.args.draws.now c.add_joins.new.draws c.args.steps.now c.add_joins.new.steps
    c.push.new.self
    c.add_walks.new.steps c.requires.place size c.in_ok-add_joins.ensures.draws c.in_ok-add_joins.ensures.steps c.in_ok-push.ensures.ok
    c.in_ok-add_walks.ensures.steps

pub returns-clause-draws : goal.returns-clause-draws
returns-clause-draws c =
    let joins = length c.args.names.now.newcomers in
    let size : c.min-size.result ≡ wave_size joins c.args.wave = omega arith in
    further_more c.args.draws.now c.add_joins.new.draws c.add_walks.new.draws c.min-size.result 10 (wave_size joins c.args.wave + 10)
    c.in_ok-add_joins.ensures.draws c.in_ok-add_walks.ensures.draws (omega arith)
