use Rattle.std.proofs.Common.{◌∙◌, ap}
use Rattle.std.specs.Prelude.{unwrap_or}
use Rattle.tap_test_runs.proofs.Lasts.{index_more}
use Rattle.tap_test_runs.proofs.world.last_index.Goals as goal

pub loop-item-preserved : goal.loop-item-preserved
loop-item-preserved c =
    c.unwrap_or-last.ensures ∙ ap (λ found. unwrap_or found c.loop-item.last) c.begun_index.ensures
    ∙ index_more c.args.records.now c.loop-item.item-index c.item-item.result c.loop-item.last c.loop-item-test.true c.item-item.is
    c.loop-item.invariant
