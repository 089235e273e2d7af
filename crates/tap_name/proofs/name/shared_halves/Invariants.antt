use Rattle.std.proofs.Common.{◌≤◌, ◌*◌, nat_eq}
use Rattle.std.specs.List.{common_prefix_len}
use Rattle.tap_name.specs.Packed.{halves}
use Rattle.tap_name.proofs.name.shared_halves.Given as goal

abbrev pub invariant-loop-at : goal.invariant-loop-at
invariant-loop-at l = 2 * l.at ≤ common_prefix_len nat_eq (halves l.mine) (halves l.theirs)
