use Rattle.std.proofs.Common.{◌≡◌, ◌++◌}
use Rattle.tap_watch.specs.Level.{level_slots}
use Rattle.tap_watch.proofs.watch.push_level.Given as goal

abbrev pub invariant-loop-digit : goal.invariant-loop-digit
invariant-loop-digit l = l.slots.items ≡ l.fn.slots.items ++ level_slots l.level l.own l.digit
