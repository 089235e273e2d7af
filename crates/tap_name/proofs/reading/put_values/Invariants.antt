use Rattle.std.proofs.Common.{◌≡◌, length, take, map}
use Rattle.tap_name.specs.Digits.{digit_of_text}
use Rattle.tap_name.proofs.reading.put_values.Given as goal

abbrev pub invariant-loop-at : goal.invariant-loop-at
invariant-loop-at l = record {
  room : length l.values ≡ length l.text;
  written : take l.at l.values ≡ take l.at (map digit_of_text l.text);
}
