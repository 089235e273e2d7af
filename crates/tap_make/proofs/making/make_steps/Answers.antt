use Rattle.std.proofs.Common.{◌≡◌, ◌∙◌, ◌+◌, ◌*◌, ◌++◌, ap, arith, length, subst, sym}
use Rattle.tap_make.specs.Draws.{DrawsValue}
use Rattle.tap_make.specs.MadeNames.{HasMadeNames, object_count}
use Rattle.tap_make.specs.MadeSteps.{made_lookups, made_publications, made_waves, wave_count}
use Rattle.tap_make.proofs.Naming.{place_is, same_names}
use Rattle.tap_make.proofs.Scripted.{steps_made}
use Rattle.tap_make.proofs.making.make_steps.Goals as goal

pub add_publications-requires-clause-names : goal.add_publications-requires-clause-names
add_publications-requires-clause-names c =
    subst (λ s. HasMadeNames (length c.args.names.now.newcomers) s c.args.names.now) (sym c.requires.seed) c.requires.names

pub add_waves-requires-clause-names : goal.add_waves-requires-clause-names
add_waves-requires-clause-names c =
    let first = subst (λ s. HasMadeNames (length c.args.names.now.newcomers) s c.args.names.now) (sym c.requires.seed) c.requires.names in
    same_names (length c.args.names.now.newcomers) object_count c.args.names.now c.args.draws.now c.add_publications.new.draws
    c.in_ok-add_publications.ensures.draws first

pub add_waves-requires-clause-place : goal.add_waves-requires-clause-place
add_waves-requires-clause-place c =
    let at = place_is c.args.draws.now c.add_publications.new.draws object_count c.in_ok-add_publications.ensures.draws in
    omega arith

pub add_lookups-requires-clause-names : goal.add_lookups-requires-clause-names
add_lookups-requires-clause-names c =
    let joins = length c.args.names.now.newcomers in
    let first = subst (λ s. HasMadeNames joins s c.args.names.now) (sym c.requires.seed) c.requires.names in
    let second = same_names joins object_count c.args.names.now c.args.draws.now c.add_publications.new.draws
    c.in_ok-add_publications.ensures.draws first in
    same_names joins (joins + 10 * wave_count joins) c.args.names.now c.add_publications.new.draws c.add_waves.new.draws
    c.in_ok-add_waves.ensures.draws second

pub add_lookups-requires-clause-place : goal.add_lookups-requires-clause-place
add_lookups-requires-clause-place c =
    let joins = length c.args.names.now.newcomers in
    let first = place_is c.args.draws.now c.add_publications.new.draws object_count c.in_ok-add_publications.ensures.draws in
    let second = place_is c.add_publications.new.draws c.add_waves.new.draws (joins + 10 * wave_count joins)
    c.in_ok-add_waves.ensures.draws in
    omega arith

pub returns : goal.returns
returns c =
    let joins = length c.args.names.now.newcomers in
    let first : c.add_publications.new.draws.seed ≡ c.args.seed =
    ap (λ (d : DrawsValue). d.seed) c.in_ok-add_publications.ensures.draws ∙ c.requires.seed in
    let second : c.add_waves.new.draws.seed ≡ c.args.seed = ap (λ (d : DrawsValue). d.seed) c.in_ok-add_waves.ensures.draws ∙ first in
    steps_made joins c.args.seed c.new-steps.result c.add_publications.new.steps c.push.new.self c.add_waves.new.steps
    c.add_lookups.new.steps
    c.add_departures.new.steps c.new-steps.ensures
    (c.in_ok-add_publications.ensures.steps ∙ ap (λ s. c.new-steps.result ++ made_publications joins s) c.requires.seed)
    c.in_ok-push.ensures.ok
    (c.in_ok-add_waves.ensures.steps ∙ ap (λ s. c.push.new.self ++ made_waves joins s) first)
    (c.in_ok-add_lookups.ensures ∙ ap (λ s. c.add_waves.new.steps ++ made_lookups joins s) second)
    c.in_ok-add_departures.ensures
