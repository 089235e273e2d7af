use Rattle.std.proofs.Common.{◌≡◌, ◌<◌, All, length, map, take}
use Rattle.tap_name.specs.Digits.{digit_of_text}
use Rattle.tap_host_line.proofs.hexadecimal.take_digits.Given as goal

abbrev pub invariant-loop-at : goal.invariant-loop-at
invariant-loop-at l = record {
  room : length l.values ≡ length l.text;
  all : All (λ value. value < 16) (take l.at l.values);
  taken : l.worst ≡ 0 → take l.at l.values ≡ map digit_of_text (take l.at l.text);
}
