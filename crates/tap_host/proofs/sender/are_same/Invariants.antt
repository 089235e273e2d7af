use Rattle.std.proofs.Common.{◌≡◌, take}
use Rattle.tap_host.proofs.sender.are_same.Given as goal

abbrev pub invariant-loop-at : goal.invariant-loop-at
invariant-loop-at l = l.worst ≡ 0 → take l.at l.these ≡ take l.at l.those
