use Rattle.std.proofs.Common.{◌≡◌, length, map, take}
use Rattle.std.specs.List.{list_all}
use Rattle.tap_line.specs.Hexadecimal.{is_digit, loose_value}
use Rattle.tap_line.proofs.hexadecimal.take_digits.Given as goal

abbrev pub invariant-loop-at : goal.invariant-loop-at
invariant-loop-at l = record {
  room : length l.values ≡ length l.text;
  all : l.good ≡ list_all is_digit (take l.at l.text);
  taken : take l.at l.values ≡ map loose_value (take l.at l.text);
}
