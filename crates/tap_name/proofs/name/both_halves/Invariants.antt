use Rattle.std.proofs.Common.{◌≡◌, ◌<◌, ℕ, length, slice_index}
use Rattle.tap_name.specs.Packed.{both_halves}
use Rattle.tap_name.proofs.name.both_halves.Given as goal

abbrev pub invariant-loop-at : goal.invariant-loop-at
invariant-loop-at l = record {
  room : length l.both ≡ 20;
  made : (at : ℕ) → at < l.at → slice_index l.both at ≡ both_halves (slice_index l.bytes at);
}
