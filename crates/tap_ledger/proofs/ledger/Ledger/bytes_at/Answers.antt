use Rattle.std.proofs.Common.{◌∙◌, ap}
use Rattle.std.specs.Prelude.{option_and_then, slice_get}
use Rattle.tap_log.specs.Reduced.{reduced}
use Rattle.tap_history.specs.Flights.{bytes_at}
use Rattle.tap_ledger.specs.Flights.{sent_payload}
use Rattle.tap_ledger.specs.Ledger.{LedgerValue}
use Rattle.tap_ledger.proofs.Asked.{bytes_is, record_bytes}
use Rattle.tap_ledger.proofs.ledger.Ledger.bytes_at.Goals as goal

pub returns : goal.returns
returns c =
    let whole = c.self.inside.log.records in
    let log = reduced whole in
    let place = c.args.place in
    let flight = c.in_ok-flight.flight in
    c.payload.ensures
    ∙ ap (λ l. option_and_then sent_payload (slice_get l flight.record_place)) c.as_slice.ensures
    ∙ ap (option_and_then (record_bytes whole)) c.in_ok-flight.ensures
    ∙ bytes_is log whole c.self.inside.frames place c.self.invariant.kept.flights
    ∙ ap (λ (l : LedgerValue). bytes_at l.records place) c.self.view_is
