use Rattle.std.proofs.Common.{◌≡◌}
use Rattle.tap_watch.specs.Level.{levels_slots}
use Rattle.tap_watch.proofs.watch.Watch.full.Given as goal

abbrev pub invariant-loop-level : goal.invariant-loop-level
invariant-loop-level l = l.slots.items ≡ levels_slots l.base l.joiner l.level
