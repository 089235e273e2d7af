use Rattle.std.proofs.Common.{◌≡◌, take}
use Rattle.tap_name.specs.Name.{text_of_name}
use Rattle.tap_name.proofs.name.print_digits.Given as goal

abbrev pub invariant-loop-at : goal.invariant-loop-at
invariant-loop-at l = take l.at l.text ≡ text_of_name (take l.at l.digits)
