use Rattle.std.proofs.Common.{arith}
use Rattle.tap_engine.specs.Kinds.{begun_index}
use Rattle.tap_test_runs.proofs.Lasts.{count_more, one_most}
use Rattle.tap_test_runs.proofs.world.steps_begun.Goals as goal

pub loop-item-preserved : goal.loop-item-preserved
loop-item-preserved c =
    let few = one_most (begun_index c.item-item.result) in
    let most = c.loop-item.invariant.1 in (
      count_more c.args.records.now c.loop-item.item-index c.item-item.result c.loop-item.count c.steps_in-count.result c.loop-item-test.true
          c.item-item.is c.loop-item.invariant.0 c.steps_in-count.ensures,
      omega (arith, few, most, c.steps_in-count.ensures),
    )
