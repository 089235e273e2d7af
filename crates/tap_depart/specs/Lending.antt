-- The ties of a leaving node, lent to be changed.
use Rattle.std.specs.Borrow.{Lends, MutBor, Fml}
use Rattle.tap_table.specs.Ties.{TiesValue}
use Rattle.tap_table.specs.contracts.ties.Ties as ties
use Rattle.tap_depart.specs.Leaving.{LeavingValue}
use Rattle.tap_depart.specs.contracts.leaving.Leaving.{the_row}

-- the leaving node ends with the ties as they are left, and the notices and awaited holders as they were
abbrev pub LendsLeavingTies : MutBor LeavingValue → MutBor TiesValue → Fml
LendsLeavingTies leaving r = Lends the_row ties.the_row leaving r (λ w. record leaving.now { ties = w })
