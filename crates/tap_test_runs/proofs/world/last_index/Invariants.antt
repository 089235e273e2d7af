use Rattle.std.proofs.Common.{◌≡◌, take}
use Rattle.tap_engine.specs.Kinds.{last_index}
use Rattle.tap_test_runs.proofs.world.last_index.Given as goal

abbrev pub invariant-loop-item : goal.invariant-loop-item
invariant-loop-item l = l.last ≡ last_index (take l.item-index l.records)
