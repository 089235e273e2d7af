use Rattle.std.proofs.Common.{◌≡◌, ◌++◌, ◌-◌, ◌*◌, take, replicate}
use Rattle.tap_name.specs.Packed.{halves}
use Rattle.tap_salt.proofs.salts.digits_of.Given as goal

abbrev pub invariant-loop-at : goal.invariant-loop-at
invariant-loop-at l = l.digits ≡ halves (take l.at l.byte-items) ++ replicate (40 - 2 * l.at) 0
