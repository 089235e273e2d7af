use Rattle.std.proofs.Common.{◌≡◌, ◌≤◌, length, take}
use Rattle.tap_engine.specs.Kinds.{begun_indices}
use Rattle.tap_test_runs.proofs.world.steps_begun.Given as goal

abbrev pub invariant-loop-item : goal.invariant-loop-item
invariant-loop-item l = (l.count ≡ length (begun_indices (take l.item-index l.records))) × (l.count ≤ l.item-index)
