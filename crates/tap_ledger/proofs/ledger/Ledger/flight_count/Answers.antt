use Rattle.std.proofs.Common.{◌∙◌, ap}
use Rattle.tap_log.specs.Reduced.{reduced}
use Rattle.tap_history.specs.Flights.{flight_count}
use Rattle.tap_ledger.specs.Ledger.{LedgerValue}
use Rattle.tap_ledger.proofs.Asked.{flight_count_is}
use Rattle.tap_ledger.proofs.ledger.Ledger.flight_count.Goals as goal

pub returns : goal.returns
returns c =
    let kept = c.self.invariant.kept in
    c.len.ensures.count
    ∙ flight_count_is c.self.inside.settings (reduced c.self.inside.log.records) c.self.inside.log.records c.self.inside.frames kept.begins kept.flights
    ∙ ap (λ (l : LedgerValue). flight_count l.records) c.self.view_is
