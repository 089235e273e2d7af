use Rattle.std.proofs.Common.{◌≡◌, ◌≤◌, length, take}
use Rattle.tap_shape.proofs.opening.begins_with.Given as goal

abbrev pub invariant-loop-at : goal.invariant-loop-at
invariant-loop-at l = record {
  long : length l.word ≤ length l.text;
  front : take l.at l.text ≡ take l.at l.word;
}
