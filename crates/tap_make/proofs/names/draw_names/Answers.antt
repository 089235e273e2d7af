use Rattle.std.proofs.Common.{◌∙◌, ◌+◌, [], ap, arith}
use Rattle.tap_make.specs.Draws.{DrawsValue}
use Rattle.tap_make.specs.MadeNames.{marked_name}
use Rattle.tap_make.specs.Mixer.{drawn}
use Rattle.tap_make.proofs.LoopLists.{more_mapped}
use Rattle.tap_make.proofs.Naming.{further_more}
use Rattle.tap_make.proofs.names.draw_names.Goals as goal

pub loop-i-preserved : goal.loop-i-preserved
loop-i-preserved c =
    let d = c.args.draws.now in
    let i = c.loop-i.i in
    record {
      names = more_mapped (λ k. marked_name (drawn d.seed (d.place + k)) (c.args.first + k)) [] c.loop-i.names c.push.new.self i
          c.marked_name.result c.loop-i.invariant.names c.in_ok-push.ensures.ok
          (c.marked_name.ensures ∙ ap (λ number. marked_name number (c.args.first + i))
          (c.next.ensures.value ∙ ap (λ (e : DrawsValue). drawn e.seed e.place) c.loop-i.invariant.draws));
      draws = further_more d c.loop-i.draws c.next.new.self i 1 (i + 1) c.loop-i.invariant.draws c.next.ensures.draws (omega arith);
    }
