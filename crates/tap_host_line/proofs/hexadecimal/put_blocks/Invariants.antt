use Rattle.std.proofs.Common.{◌≡◌, ◌*◌, length, take}
use Rattle.tap_name.specs.Packed.{joined}
use Rattle.tap_host_line.proofs.hexadecimal.put_blocks.Given as goal

abbrev pub invariant-loop-block : goal.invariant-loop-block
invariant-loop-block l = record {
  room : length l.places ≡ 32 * l.blocks;
  put : take (32 * l.block) l.places ≡ joined (take (2 * (32 * l.block)) l.values);
}
