use Rattle.std.proofs.Common.{◌≡◌, ◌∙◌, ◌+◌, ◌*◌, ◌++◌, ap, arith, length, map}
use Rattle.std.specs.List.{range_with_len}
use Rattle.tap_scenario.specs.declared.step.Step.TheVariants.{Walk}
use Rattle.tap_make.specs.Draws.{further}
use Rattle.tap_make.specs.MadeSteps.{drawn_walk}
use Rattle.tap_make.proofs.LoopLists.{more_mapped}
use Rattle.tap_make.proofs.Naming.{further_more, place_is, same_names}
use Rattle.tap_make.proofs.Scripted.{walk_made}
use Rattle.tap_make.proofs.waves.add_walks.Goals as goal

pub draw_object-object-requires-clause-names : goal.draw_object-object-requires-clause-names
draw_object-object-requires-clause-names c =
    same_names (length c.args.names.now.newcomers) (2 * c.loop-walk._walk) c.args.names.now c.args.draws.now c.loop-walk.draws
    c.loop-walk.invariant.draws c.requires.names

pub draw_object-object-requires-clause-place : goal.draw_object-object-requires-clause-place
draw_object-object-requires-clause-place c =
    let at = place_is c.args.draws.now c.loop-walk.draws (2 * c.loop-walk._walk) c.loop-walk.invariant.draws in
    omega arith

pub draw_member-asker-requires-clause-names : goal.draw_member-asker-requires-clause-names
draw_member-asker-requires-clause-names c =
    let first = same_names (length c.args.names.now.newcomers) (2 * c.loop-walk._walk) c.args.names.now c.args.draws.now
    c.loop-walk.draws c.loop-walk.invariant.draws c.requires.names in
    same_names (length c.args.names.now.newcomers) 1 c.args.names.now c.loop-walk.draws c.draw_object-object.new.draws
    c.draw_object-object.ensures.draws first

pub draw_member-asker-requires-clause-place : goal.draw_member-asker-requires-clause-place
draw_member-asker-requires-clause-place c =
    let at = place_is c.args.draws.now c.loop-walk.draws (2 * c.loop-walk._walk) c.loop-walk.invariant.draws in
    let next = place_is c.loop-walk.draws c.draw_object-object.new.draws 1 c.draw_object-object.ensures.draws in
    omega arith

pub loop-walk-preserved : goal.loop-walk-preserved
loop-walk-preserved c =
    let joins = length c.args.names.now.newcomers in
    let i = c.loop-walk._walk in
    record {
      steps = more_mapped (λ n. drawn_walk joins c.args.draws.now.seed (c.args.draws.now.place + 2 * n)) c.args.steps.now c.loop-walk.steps
          c.push.new.self i (Walk c.draw_object-object.result c.draw_member-asker.result) c.loop-walk.invariant.steps
          c.in_ok-push.ensures.ok
          (walk_made joins i c.args.draws.now c.loop-walk.draws c.draw_object-object.new.draws c.draw_object-object.result
          c.draw_member-asker.result c.loop-walk.invariant.draws c.draw_object-object.ensures.draws
          c.draw_object-object.ensures.value c.draw_member-asker.ensures.value);
      draws = further_more c.args.draws.now c.draw_object-object.new.draws c.draw_member-asker.new.draws (2 * i + 1) 1 (2 * (i + 1))
          (further_more c.args.draws.now c.loop-walk.draws c.draw_object-object.new.draws (2 * i) 1 (2 * i + 1)
          c.loop-walk.invariant.draws c.draw_object-object.ensures.draws (omega arith))
          c.draw_member-asker.ensures.draws (omega arith);
    }

pub returns-clause-steps : goal.returns-clause-steps
returns-clause-steps c =
    let joins = length c.args.names.now.newcomers in
    let all : c.loop-walk._walk ≡ 5 = omega arith in
    c.loop-walk.invariant.steps
    ∙ ap (λ k. c.args.steps.now ++ map (λ n. drawn_walk joins c.args.draws.now.seed (c.args.draws.now.place + 2 * n))
    (range_with_len 0 k)) all

pub returns-clause-draws : goal.returns-clause-draws
returns-clause-draws c =
    let all : 2 * c.loop-walk._walk ≡ 10 = omega arith in
    c.loop-walk.invariant.draws ∙ ap (further c.args.draws.now) all
