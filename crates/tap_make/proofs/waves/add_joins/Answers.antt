use Rattle.std.proofs.Common.{◌≡◌, ◌∙◌, ◌+◌, ◌++◌, ap, arith, length, map}
use Rattle.std.specs.List.{range_with_len}
use Rattle.tap_scenario.specs.declared.step.Step.TheVariants.{Join}
use Rattle.tap_make.specs.Draws.{further}
use Rattle.tap_make.specs.MadeNames.{drawn_member, newcomer}
use Rattle.tap_make.proofs.LoopLists.{more_mapped}
use Rattle.tap_make.proofs.Naming.{further_more, place_is, same_names}
use Rattle.tap_make.proofs.Scripted.{join_made, newcomer_at}
use Rattle.tap_make.proofs.waves.add_joins.Goals as goal

pub draw_member-requires-clause-names : goal.draw_member-requires-clause-names
draw_member-requires-clause-names c =
    same_names (length c.args.names.now.newcomers) c.loop-i.i c.args.names.now c.args.draws.now c.loop-i.draws c.loop-i.invariant.draws
    c.requires.names

pub draw_member-requires-clause-place : goal.draw_member-requires-clause-place
draw_member-requires-clause-place c =
    let at = place_is c.args.draws.now c.loop-i.draws c.loop-i.i c.loop-i.invariant.draws in
    omega arith

pub loop-i-preserved : goal.loop-i-preserved
loop-i-preserved c =
    let joins = length c.args.names.now.newcomers in
    let d = c.args.draws.now in
    record {
      steps = more_mapped (λ n. Join (newcomer d.seed (c.args.first + n)) (drawn_member d.seed (d.place + n)))
          c.args.steps.now c.loop-i.steps
          c.push.new.self c.loop-i.i (Join c.at.result c.draw_member.result) c.loop-i.invariant.steps c.in_ok-push.ensures.ok
          (join_made c.args.first c.loop-i.i d c.loop-i.draws c.at.result c.draw_member.result c.loop-i.invariant.draws
          (newcomer_at joins d.seed (c.args.first + c.loop-i.i) c.args.names.now.newcomers c.at.result c.requires.names.newcomers
          (omega arith) c.at.ensures)
          c.draw_member.ensures.value);
      draws = further_more d c.loop-i.draws c.draw_member.new.draws c.loop-i.i 1 (c.loop-i.i + 1) c.loop-i.invariant.draws
          c.draw_member.ensures.draws (omega arith);
    }

pub returns-clause-steps : goal.returns-clause-steps
returns-clause-steps c =
    let d = c.args.draws.now in
    let all : c.loop-i.i ≡ c.args.size = omega arith in
    c.loop-i.invariant.steps
    ∙ ap (λ k. c.args.steps.now ++ map (λ n. Join (newcomer d.seed (c.args.first + n)) (drawn_member d.seed (d.place + n)))
    (range_with_len 0 k)) all

pub returns-clause-draws : goal.returns-clause-draws
returns-clause-draws c =
    let all : c.loop-i.i ≡ c.args.size = omega arith in
    c.loop-i.invariant.draws ∙ ap (further c.args.draws.now) all
