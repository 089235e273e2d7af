use Rattle.std.proofs.Common.{◌≡◌, ◌*◌, length, take}
use Rattle.tap_name.specs.Packed.{halves}
use Rattle.tap_name.proofs.name.put_halves.Given as goal

abbrev pub invariant-loop-at : goal.invariant-loop-at
invariant-loop-at l = record {
  room : length l.digits ≡ 2 * length l.bytes;
  written : take (2 * l.at) l.digits ≡ take (2 * l.at) (halves l.bytes);
}
