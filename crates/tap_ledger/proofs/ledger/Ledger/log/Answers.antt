use Rattle.std.proofs.Common.{◌∙◌, ap, sym, subst}
use Rattle.tap_ledger.specs.Ledger.{LedgerValue}
use Rattle.tap_ledger.specs.Woven.{RemarksWithin, woven}
use Rattle.tap_ledger.proofs.Woven.{remarks_within, woven_parts}
use Rattle.tap_ledger.proofs.ledger.Ledger.log.Goals as goal

pub returns-clause-records : goal.returns-clause-records
returns-clause-records c =
    sym (woven_parts c.self.inside.log.records) ∙ ap (λ (l : LedgerValue). woven l.records l.added) c.self.view_is

pub returns-clause-within : goal.returns-clause-within
returns-clause-within c =
    subst (λ (l : LedgerValue). RemarksWithin l.records l.added) c.self.view_is (remarks_within c.self.inside.log.records)
