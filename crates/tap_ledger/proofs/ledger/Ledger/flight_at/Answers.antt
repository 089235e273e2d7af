use Rattle.std.proofs.Common.{◌≡◌, ◌∙◌, Some, ap, sym, subst}
use Rattle.std.specs.Prelude.{IfSome, option_and_then, option_map, slice_get}
use Rattle.std.proofs.lemmas.Option.{slice_get-map}
use Rattle.tap_log.specs.declared.record.Record.TheVariants.{Sent}
use Rattle.tap_log.specs.Reduced.{reduced}
use Rattle.tap_history.specs.Flights.{bytes_at}
use Rattle.tap_history.specs.Moments.{outstanding}
use Rattle.tap_ledger.specs.Flights.{sent_payload}
use Rattle.tap_ledger.specs.Ledger.{LedgerValue}
use Rattle.tap_ledger.specs.Woven.{remarks_of, woven}
use Rattle.tap_ledger.proofs.Asked.{bytes_is, flight_sends, flight_there, frame_number, frame_there, record_bytes}
use Rattle.tap_ledger.proofs.Woven.{woven_parts}
use Rattle.tap_ledger.proofs.ledger.Ledger.flight_at.Goals as goal

pub returns-clause-number : goal.returns-clause-number
returns-clause-number c =
    let whole = c.self.inside.log.records in
    let log = reduced whole in
    let place = c.args.place in
    let flight = c.in_ok-flight.flight in
    let flights = c.self.invariant.kept.flights in
    let is = flight_there log whole c.self.inside.frames.frames place flight flights.each c.in_ok-flight.ensures in
    let bytes : option_map (λ f. f.bytes.now) c.frame_of.result ≡ Some is.bytes = c.frame_of.ensures.bytes
    ∙ ap (λ l. option_and_then sent_payload (slice_get l flight.record_place)) c.as_slice.ensures ∙ flight_sends log whole flight is in
    frame_number c.frame_of.result flight.number is.bytes c.frame_of.ensures.number bytes
    ∙ ap (option_map (λ f. f.number)) c.in_ok-flight.ensures
    ∙ sym (slice_get-map (λ f. f.number) c.self.inside.frames.frames place)
    ∙ ap (λ l. slice_get l place) flights.numbers
    ∙ ap (λ (l : LedgerValue). slice_get (outstanding l.records) place) c.self.view_is

pub returns-clause-bytes : goal.returns-clause-bytes
returns-clause-bytes c =
    let whole = c.self.inside.log.records in
    let log = reduced whole in
    let place = c.args.place in
    let flight = c.in_ok-flight.flight in
    c.frame_of.ensures.bytes
    ∙ ap (λ l. option_and_then sent_payload (slice_get l flight.record_place)) c.as_slice.ensures
    ∙ ap (option_and_then (record_bytes whole)) c.in_ok-flight.ensures
    ∙ bytes_is log whole c.self.inside.frames place c.self.invariant.kept.flights
    ∙ ap (λ (l : LedgerValue). bytes_at l.records place) c.self.view_is

pub returns-clause-at : goal.returns-clause-at
returns-clause-at c =
    let whole = c.self.inside.log.records in
    let log = reduced whole in
    let place = c.args.place in
    let flight = c.in_ok-flight.flight in
    let flights = c.self.invariant.kept.flights in
    let is = flight_there log whole c.self.inside.frames.frames place flight flights.each c.in_ok-flight.ensures in
    let bytes : option_map (λ f. f.bytes.now) c.frame_of.result ≡ Some is.bytes = c.frame_of.ensures.bytes
    ∙ ap (λ l. option_and_then sent_payload (slice_get l flight.record_place)) c.as_slice.ensures ∙ flight_sends log whole flight is in
    let There : LedgerValue → Type 0 = λ l. IfSome c.frame_of.result (λ f. slice_get (woven l.records l.added) f.record_place ≡ Some (Sent f.number f.bytes.now)) in
    subst There c.self.view_is (frame_there (woven log (remarks_of whole)) flight c.frame_of.result is.bytes c.frame_of.ensures.number
    c.frame_of.ensures.record_place bytes (ap (λ l. slice_get l flight.record_place) (woven_parts whole) ∙ is.there))
