use Rattle.std.proofs.Common.{◌≡◌, ◌*◌, length, take}
use Rattle.tap_name.specs.Name.{text_of_name}
use Rattle.tap_report.proofs.pairs.print_usual.Given as goal

abbrev pub invariant-loop-at : goal.invariant-loop-at
invariant-loop-at l = record {
  places : length l.text ≡ 8;
  printed : take (2 * l.at) l.text ≡ text_of_name (take (2 * l.at) l.name);
}
