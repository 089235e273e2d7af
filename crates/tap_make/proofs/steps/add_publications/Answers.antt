use Rattle.std.proofs.Common.{◌≡◌, ◌∙◌, ◌+◌, ◌++◌, ap, arith, length, map}
use Rattle.std.specs.List.{range_with_len}
use Rattle.tap_scenario.specs.declared.step.Step.TheVariants.{Publish}
use Rattle.tap_make.specs.Draws.{further}
use Rattle.tap_make.specs.MadeNames.{made_object, object_count}
use Rattle.tap_make.specs.MadeSteps.{made_publication}
use Rattle.tap_make.proofs.LoopLists.{more_mapped}
use Rattle.tap_make.proofs.Naming.{count_of, further_more, place_is, same_names}
use Rattle.tap_make.proofs.Scripted.{object_at, publication_made}
use Rattle.tap_make.proofs.steps.add_publications.Goals as goal

pub draw_member-requires-clause-names : goal.draw_member-requires-clause-names
draw_member-requires-clause-names c =
    same_names (length c.args.names.now.newcomers) c.loop-i.i c.args.names.now c.args.draws.now c.loop-i.draws c.loop-i.invariant.draws
    c.requires.names

pub draw_member-requires-clause-place : goal.draw_member-requires-clause-place
draw_member-requires-clause-place c =
    let at = place_is c.args.draws.now c.loop-i.draws c.loop-i.i c.loop-i.invariant.draws in
    let count = count_of (made_object (length c.args.names.now.newcomers) c.args.draws.now.seed) object_count c.args.names.now.objects
    c.requires.names.objects in
    omega arith

pub loop-i-preserved : goal.loop-i-preserved
loop-i-preserved c =
    let joins = length c.args.names.now.newcomers in
    let seed = c.args.draws.now.seed in
    let count = count_of (made_object joins seed) object_count c.args.names.now.objects c.requires.names.objects in
    record {
      steps = more_mapped (made_publication joins seed) c.args.steps.now c.loop-i.steps c.push.new.self
          c.loop-i.i (Publish c.at.result c.draw_member.result) c.loop-i.invariant.steps c.in_ok-push.ensures.ok
          (publication_made joins c.loop-i.i c.args.draws.now c.loop-i.draws c.at.result c.draw_member.result c.requires.place
          c.loop-i.invariant.draws
          (object_at joins seed c.loop-i.i c.args.names.now.objects c.at.result c.requires.names.objects (omega arith) c.at.ensures)
          c.draw_member.ensures.value);
      draws = further_more c.args.draws.now c.loop-i.draws c.draw_member.new.draws c.loop-i.i 1 (c.loop-i.i + 1) c.loop-i.invariant.draws
          c.draw_member.ensures.draws (omega arith);
    }

pub returns-clause-steps : goal.returns-clause-steps
returns-clause-steps c =
    let joins = length c.args.names.now.newcomers in
    let seed = c.args.draws.now.seed in
    let count = count_of (made_object joins seed) object_count c.args.names.now.objects c.requires.names.objects in
    let all : c.loop-i.i ≡ object_count = omega arith in
    c.loop-i.invariant.steps ∙ ap (λ n. c.args.steps.now ++ map (made_publication joins seed) (range_with_len 0 n)) all

pub returns-clause-draws : goal.returns-clause-draws
returns-clause-draws c =
    let joins = length c.args.names.now.newcomers in
    let count = count_of (made_object joins c.args.draws.now.seed) object_count c.args.names.now.objects c.requires.names.objects in
    let all : c.loop-i.i ≡ object_count = omega arith in
    c.loop-i.invariant.draws ∙ ap (further c.args.draws.now) all
