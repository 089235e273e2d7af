use Rattle.std.proofs.Common.{◌≤◌, take, All}
use Rattle.tap_wire.proofs.fields.are_below.Given as goal

abbrev pub invariant-loop-byte : goal.invariant-loop-byte
invariant-loop-byte l = All (λ b. b ≤ l.greatest) (take l.byte-index l.bytes)
