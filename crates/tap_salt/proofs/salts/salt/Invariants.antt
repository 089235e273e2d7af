use Rattle.std.proofs.Common.{◌≡◌, length, take}
use Rattle.tap_name.specs.Name.{text_of_name}
use Rattle.tap_salt.proofs.salts.salt.Given as goal

abbrev pub invariant-loop-at : goal.invariant-loop-at
invariant-loop-at l = record {
  room : length l.text ≡ 41;
  printed : take l.at l.text ≡ take l.at (text_of_name l.digits);
}
