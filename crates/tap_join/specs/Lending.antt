-- The ties of a joining node and of a core node, lent to be changed.
use Rattle.std.specs.Borrow.{Lends, MutBor, Fml}
use Rattle.tap_table.specs.Ties.{TiesValue}
use Rattle.tap_table.specs.contracts.ties.Ties as ties
use Rattle.tap_join.specs.Joining.{JoiningValue}
use Rattle.tap_join.specs.contracts.joining.Joining as joining
use Rattle.tap_join.specs.contracts.core_node.Core as core

-- the joining node ends with the ties as they are left; whom it greeted stays, and whether the join was given up
abbrev pub LendsJoiningTies : MutBor JoiningValue → MutBor TiesValue → Fml
LendsJoiningTies node r = Lends joining.the_row ties.the_row node r (λ w. record node.now { ties = w })

-- the core node ends with the ties as they are left
abbrev pub LendsCoreTies : MutBor TiesValue → MutBor TiesValue → Fml
LendsCoreTies node r = Lends core.the_row ties.the_row node r (λ w. w)
