use Rattle.std.proofs.Common.{◌≡◌, ◌∙◌, ◌+◌, ◌*◌, ◌++◌, ◌∷◌, [], ap, arith, flat_map, length}
use Rattle.std.specs.List.{range_with_len}
use Rattle.tap_scenario.specs.declared.step.Step.TheVariants.{Find, Settle}
use Rattle.tap_make.specs.MadeSteps.{lookup_count, made_lookup}
use Rattle.tap_make.proofs.LoopLists.{more_flat}
use Rattle.tap_make.proofs.Naming.{further_more, place_is, same_names}
use Rattle.tap_make.proofs.Scripted.{lookup_made, two_more}
use Rattle.tap_make.proofs.steps.add_lookups.Goals as goal

pub draw_object-object-requires-clause-names : goal.draw_object-object-requires-clause-names
draw_object-object-requires-clause-names c =
    same_names (length c.args.names.now.newcomers) (2 * c.loop-lookup._lookup) c.args.names.now c.args.draws.now c.loop-lookup.draws
    c.loop-lookup.invariant.draws c.requires.names

pub draw_object-object-requires-clause-place : goal.draw_object-object-requires-clause-place
draw_object-object-requires-clause-place c =
    let at = place_is c.args.draws.now c.loop-lookup.draws (2 * c.loop-lookup._lookup) c.loop-lookup.invariant.draws in
    omega arith

pub draw_member-asker-requires-clause-names : goal.draw_member-asker-requires-clause-names
draw_member-asker-requires-clause-names c =
    let first = same_names (length c.args.names.now.newcomers) (2 * c.loop-lookup._lookup) c.args.names.now c.args.draws.now
    c.loop-lookup.draws c.loop-lookup.invariant.draws c.requires.names in
    same_names (length c.args.names.now.newcomers) 1 c.args.names.now c.loop-lookup.draws c.draw_object-object.new.draws
    c.draw_object-object.ensures.draws first

pub draw_member-asker-requires-clause-place : goal.draw_member-asker-requires-clause-place
draw_member-asker-requires-clause-place c =
    let at = place_is c.args.draws.now c.loop-lookup.draws (2 * c.loop-lookup._lookup) c.loop-lookup.invariant.draws in
    let next = place_is c.loop-lookup.draws c.draw_object-object.new.draws 1 c.draw_object-object.ensures.draws in
    omega arith

pub loop-lookup-preserved : goal.loop-lookup-preserved
loop-lookup-preserved c =
    let joins = length c.args.names.now.newcomers in
    let i = c.loop-lookup._lookup in
    record {
      steps = more_flat (λ number. made_lookup joins c.args.draws.now.seed number ∷ Settle ∷ []) c.args.steps.now c.loop-lookup.steps
          c.push-in-loop-lookup.new.self (Find c.draw_object-object.result c.draw_member-asker.result ∷ Settle ∷ []) i
          c.loop-lookup.invariant.steps
          (two_more c.loop-lookup.steps c.push.new.self c.push-in-loop-lookup.new.self
          (Find c.draw_object-object.result c.draw_member-asker.result) Settle
          c.in_ok-push.ensures.ok c.in_ok-push-2.ensures.ok)
          (ap (λ x. x ∷ Settle ∷ [])
          (lookup_made joins i c.args.draws.now c.loop-lookup.draws c.draw_object-object.new.draws c.draw_object-object.result
          c.draw_member-asker.result c.requires.place c.loop-lookup.invariant.draws c.draw_object-object.ensures.draws
          c.draw_object-object.ensures.value c.draw_member-asker.ensures.value));
      draws = further_more c.args.draws.now c.draw_object-object.new.draws c.draw_member-asker.new.draws (2 * i + 1) 1 (2 * (i + 1))
          (further_more c.args.draws.now c.loop-lookup.draws c.draw_object-object.new.draws (2 * i) 1 (2 * i + 1)
          c.loop-lookup.invariant.draws c.draw_object-object.ensures.draws (omega arith))
          c.draw_member-asker.ensures.draws (omega arith);
    }

pub returns : goal.returns
returns c =
    let joins = length c.args.names.now.newcomers in
    let all : c.loop-lookup._lookup ≡ lookup_count = omega arith in
    c.loop-lookup.invariant.steps
    ∙ ap (λ n. c.args.steps.now ++ flat_map (λ number. made_lookup joins c.args.draws.now.seed number ∷ Settle ∷ [])
    (range_with_len 0 n)) all
