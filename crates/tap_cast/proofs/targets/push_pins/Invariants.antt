use Rattle.std.proofs.Common.{◌≡◌, ◌++◌, drop, map}
use Rattle.tap_cast.specs.Targets.{pins_of, told_at}
use Rattle.tap_cast.proofs.targets.push_pins.Given as goal

abbrev pub invariant-loop-at : goal.invariant-loop-at
invariant-loop-at l =
    l.targets.items ++ map (told_at l.level) (pins_of (drop l.at l.set.links))
    ≡ l.fn.targets.items ++ map (told_at l.level) (pins_of l.set.links)
