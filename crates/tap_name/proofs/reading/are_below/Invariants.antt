use Rattle.std.proofs.Common.{◌≡◌, nat_lt, take}
use Rattle.std.specs.List.{list_all}
use Rattle.tap_name.proofs.reading.are_below.Given as goal

abbrev pub invariant-loop-at : goal.invariant-loop-at
invariant-loop-at l = l.good ≡ list_all (λ digit. nat_lt digit l.base) (take l.at l.digits)
