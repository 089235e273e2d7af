use Rattle.std.proofs.Common.{sym, ◌∙◌}
use Rattle.tap_test_runs.proofs.Single.{can_add_is}
use Rattle.tap_test_runs.proofs.ledger.add.Goals as goal

-- src/tests.rt:94:5
pub push_reserved-requires-clause-can_add : goal.push_reserved-requires-clause-can_add
push_reserved-requires-clause-can_add g c =
    can_add_is c.reserve.new.self.records c.args.item (sym c.can_add.ensures ∙ search)
