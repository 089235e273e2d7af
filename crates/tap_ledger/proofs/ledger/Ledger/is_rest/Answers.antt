use Rattle.std.proofs.Common.{◌∙◌, ap}
use Rattle.tap_log.specs.Reduced.{reduced}
use Rattle.tap_history.specs.Moments.{is_rest}
use Rattle.tap_ledger.specs.Ledger.{LedgerValue}
use Rattle.tap_ledger.proofs.Asked.{rest_is}
use Rattle.tap_ledger.proofs.ledger.Ledger.is_rest.Goals as goal

pub returns : goal.returns
returns c =
    let kept = c.self.invariant.kept in
    c.is_empty.ensures
    ∙ rest_is c.self.inside.settings (reduced c.self.inside.log.records) c.self.inside.log.records c.self.inside.frames kept.begins kept.flights
    ∙ ap (λ (l : LedgerValue). is_rest l.records) c.self.view_is
