use Rattle.std.proofs.Common.{◌≡◌, ◌∙◌, Some, None, nat_eq, ap, sym}
use Rattle.std.specs.Prelude.{option_and_then, option_map, position, slice_get}
use Rattle.std.proofs.lemmas.Option.{none-some, slice_get-map}
use Rattle.tap_outstanding.specs.declared.outstanding.Flight.{Flight}
use Rattle.tap_log.specs.Reduced.{reduced}
use Rattle.tap_history.specs.Flights.{bytes_at}
use Rattle.tap_history.specs.Moments.{outstanding}
use Rattle.tap_ledger.specs.Flights.{sent_payload}
use Rattle.tap_ledger.specs.Ledger.{LedgerValue}
use Rattle.tap_ledger.specs.declared.flights.OutstandingFrame.{OutstandingFrame}
use Rattle.tap_ledger.proofs.Asked.{bytes_is, flight_sends, flight_there, frame_number, numbered_there, place_is, record_bytes}
use Rattle.tap_ledger.proofs.ledger.Ledger.flight_of.Goals as goal

pub returns-in_err-flight-clause-number : goal.returns-in_err-flight-clause-number
returns-in_err-flight-clause-number c = λ place is.
    let whole = c.self.inside.log.records in
    let log = reduced whole in
    let frames = c.self.inside.frames in
    let flights = c.self.invariant.kept.flights in
    let here = ap (λ (l : LedgerValue). position (nat_eq c.args.number) (outstanding l.records)) c.self.view_is ∙ is in
    let none : None ≡ slice_get frames.frames place = c.in_err-flight.ensures ∙ numbered_there log whole frames c.args.number place flights here in
    ap (option_map (λ (f : OutstandingFrame). f.number)) c.from_residual.ensures
    ∙ ap (option_map (λ (f : Flight). f.number)) none
    ∙ sym (slice_get-map (λ (f : Flight). f.number) frames.frames place)
    ∙ ap (λ l. slice_get l place) flights.numbers
    ∙ ap (λ (l : LedgerValue). slice_get (outstanding l.records) place) c.self.view_is

pub returns-in_err-flight-clause-bytes : goal.returns-in_err-flight-clause-bytes
returns-in_err-flight-clause-bytes c = λ place is.
    let whole = c.self.inside.log.records in
    let log = reduced whole in
    let frames = c.self.inside.frames in
    let flights = c.self.invariant.kept.flights in
    let here = ap (λ (l : LedgerValue). position (nat_eq c.args.number) (outstanding l.records)) c.self.view_is ∙ is in
    let none : None ≡ slice_get frames.frames place = c.in_err-flight.ensures ∙ numbered_there log whole frames c.args.number place flights here in
    ap (option_map (λ (f : OutstandingFrame). f.bytes.now)) c.from_residual.ensures
    ∙ ap (option_and_then (record_bytes whole)) none
    ∙ bytes_is log whole frames place flights
    ∙ ap (λ (l : LedgerValue). bytes_at l.records place) c.self.view_is

pub returns-clause-number : goal.returns-clause-number
returns-clause-number c = λ place at.
    let whole = c.self.inside.log.records in
    let log = reduced whole in
    let frames = c.self.inside.frames in
    let flight = c.in_ok-flight.flight in
    let flights = c.self.invariant.kept.flights in
    let here = ap (λ (l : LedgerValue). position (nat_eq c.args.number) (outstanding l.records)) c.self.view_is ∙ at in
    let there : Some flight ≡ slice_get frames.frames place =
    c.in_ok-flight.ensures ∙ numbered_there log whole frames c.args.number place flights here in
    let is = flight_there log whole frames.frames place flight flights.each there in
    let bytes : option_map (λ (f : OutstandingFrame). f.bytes.now) c.frame_of-2.result ≡ Some is.bytes = c.frame_of-2.ensures.bytes
    ∙ ap (λ l. option_and_then sent_payload (slice_get l flight.record_place)) c.as_slice.ensures ∙ flight_sends log whole flight is in
    frame_number c.frame_of-2.result flight.number is.bytes c.frame_of-2.ensures.number bytes
    ∙ ap (option_map (λ (f : Flight). f.number)) there
    ∙ sym (slice_get-map (λ (f : Flight). f.number) frames.frames place)
    ∙ ap (λ l. slice_get l place) flights.numbers
    ∙ ap (λ (l : LedgerValue). slice_get (outstanding l.records) place) c.self.view_is

pub returns-clause-bytes : goal.returns-clause-bytes
returns-clause-bytes c = λ place at.
    let whole = c.self.inside.log.records in
    let log = reduced whole in
    let frames = c.self.inside.frames in
    let flight = c.in_ok-flight.flight in
    let flights = c.self.invariant.kept.flights in
    let here = ap (λ (l : LedgerValue). position (nat_eq c.args.number) (outstanding l.records)) c.self.view_is ∙ at in
    let there : Some flight ≡ slice_get frames.frames place =
    c.in_ok-flight.ensures ∙ numbered_there log whole frames c.args.number place flights here in
    c.frame_of-2.ensures.bytes
    ∙ ap (λ l. option_and_then sent_payload (slice_get l flight.record_place)) c.as_slice.ensures
    ∙ ap (option_and_then (record_bytes whole)) there
    ∙ bytes_is log whole frames place flights
    ∙ ap (λ (l : LedgerValue). bytes_at l.records place) c.self.view_is

pub returns-clause-none : goal.returns-clause-none
returns-clause-none c = λ none.
    let whole = c.self.inside.log.records in
    let frames = c.self.inside.frames in
    let gone = ap (λ (l : LedgerValue). position (nat_eq c.args.number) (outstanding l.records)) c.self.view_is ∙ none in
    let there : Some c.in_ok-flight.flight ≡ None =
    c.in_ok-flight.ensures ∙ ap (option_and_then (slice_get frames.frames))
    (place_is (reduced whole) whole frames c.args.number c.self.invariant.kept.flights ∙ gone) in
    absurd (none-some c.in_ok-flight.flight (sym there))
