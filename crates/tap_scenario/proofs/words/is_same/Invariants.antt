use Rattle.std.proofs.Common.{◌≡◌, length, take}
use Rattle.tap_scenario.proofs.words.is_same.Given as goal

abbrev pub invariant-loop-at : goal.invariant-loop-at
invariant-loop-at l = record {
  long : length l.one ≡ length l.other;
  front : take l.at l.one ≡ take l.at l.other;
}
