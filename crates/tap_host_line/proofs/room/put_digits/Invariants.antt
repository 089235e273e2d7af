use Rattle.std.proofs.Common.{◌≡◌, ◌*◌, ◌++◌, drop, take}
use Rattle.hex.specs.Hex.{encode_lower}
use Rattle.tap_host_line.proofs.room.put_digits.Given as goal

abbrev pub invariant-loop-at : goal.invariant-loop-at
invariant-loop-at l = take (2 * l.at) l.text ++ encode_lower (drop l.at l.bytes) ≡ encode_lower l.bytes
