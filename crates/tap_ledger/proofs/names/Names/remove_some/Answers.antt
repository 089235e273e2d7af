use Rattle.tap_ledger.proofs.Less.{without_none}
use Rattle.tap_ledger.proofs.names.Names.remove_some.Goals as goal

pub returns-in-None-clause-names : goal.returns-in-None-clause-names
returns-in-None-clause-names c = rw c.in-None.is (without_none c.args.self.now.names)
