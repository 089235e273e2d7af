use Rattle.std.proofs.Common.{◌≡◌, ◌∷◌, [], slice_get, nat_eq, None, Some, Err, refl, sym, subst, ◌∙◌}
use Rattle.std.specs.List.{position_or_len}
use Rattle.tap_log.specs.declared.record.Record.TheVariants.{Taken}
use Rattle.tap_history.specs.Moments.{outstanding}
use Rattle.tap_wire.specs.Reading.{frame_of}
use Rattle.tap_engine.specs.KeptEngine.{LeadsTo}
use Rattle.tap_engine.specs.Outcome.{takes_number}
use Rattle.tap_engine.specs.declared.engine.Acted.{Acted}
use Rattle.tap_engine.specs.declared.engine.Engine.{Engine}
use Rattle.tap_engine.proofs.Counting.{can_add_turn, few_sent, room_left, taken_sent}
use Rattle.tap_engine.proofs.Keeping.{seen, wanting}
use Rattle.tap_engine.proofs.Leading.{delivered_may, taken_leads}
use Rattle.tap_engine.proofs.NumberPlaces.{place_at, place_found}
use Rattle.tap_engine.proofs.Taking.{bytes_may, delivered_still, failed_still, frame_delivered, frame_read, frame_taken, frame_there}
use Rattle.tap_engine.proofs.engine.Engine.deliver_number.Goals as goal

pub unreachable-requires : goal.unreachable-requires
unreachable-requires c =
    let numbers = outstanding c.args.self.now.ledger.records in
    let number = c.args.number in
    let place = position_or_len (nat_eq number) numbers in
    let found = place_at numbers number c.requires.waits in
    let never : None ≡ Some number = c.in_default.ensures.number place found ∙ place_found numbers number place found in
    cc

pub deliver-requires-clause-may : goal.deliver-requires-clause-may
deliver-requires-clause-may c =
    let m = c.args.self.now in
    let numbers = outstanding m.ledger.records in
    let number = c.args.number in
    let place = position_or_len (nat_eq number) numbers in
    let found = place_at numbers number c.requires.waits in
    bytes_may m c.requires.ready place number (place_found numbers number place found) c.in-Some.flight.bytes.now
    (c.in-Some.ensures.bytes place found)

pub add_taken-requires-clause-room : goal.add_taken-requires-clause-room
add_taken-requires-clause-room c = room_left c.args.self.now c.requires.ready

pub add_taken-requires-clause-sent : goal.add_taken-requires-clause-sent
add_taken-requires-clause-sent c = few_sent c.args.self.now c.requires.ready

pub add_taken-requires-clause-can_add : goal.add_taken-requires-clause-can_add
add_taken-requires-clause-can_add c =
    let m = c.args.self.now in
    let n : Engine = record m { overlay = c.deliver.new.self } in
    let numbers = outstanding m.ledger.records in
    let number = c.args.number in
    let place = position_or_len (nat_eq number) numbers in
    let found = place_at numbers number c.requires.waits in
    let at = place_found numbers number place found in
    let acted : Acted = record { name = c.in-Ok.name; turn = c.deliver.new.turn } in
    let has = frame_taken m c.requires.ready place number at c.in-Some.flight.bytes.now (c.in-Some.ensures.bytes place found) c.deliver.new.self
    c.deliver.new.turn c.in-Ok.name c.in-Ok.ensures.delivered c.deliver.ensures.settings in
    can_add_turn m n (Taken number ∷ []) acted c.requires.ready refl refl refl (taken_sent number)
    (delivered_may m n c.requires.ready place number at refl acted has)

pub returns-in-Ok-clause-leads : goal.returns-in-Ok-clause-leads
returns-in-Ok-clause-leads c = λ place found.
    let m = c.args.self.now in
    let n : Engine = record m { overlay = c.deliver.new.self } in
    let number = c.args.number in
    let at = place_found (outstanding m.ledger.records) number place found in
    let bytes = c.in-Some.flight.bytes.now in
    let is = c.in-Some.ensures.bytes place found in
    let turn = c.deliver.new.turn in
    let acted : Acted = record { name = c.in-Ok.name; turn = turn } in
    let told = c.in-Ok.ensures.delivered in
    let has = frame_taken m c.requires.ready place number at bytes is c.deliver.new.self turn c.in-Ok.name told c.deliver.ensures.settings in
    let still = delivered_still m.overlay c.deliver.new.self turn c.in-Ok.name (frame_there m c.requires.ready place number at bytes is).frame
    (frame_delivered m c.requires.ready place number at bytes is c.deliver.new.self turn c.in-Ok.name told) c.deliver.ensures.settings in
    taken_leads m n c.requires.ready place number at refl acted has c.add_taken.new.self c.add_taken.result still c.add_taken.ensures.logs

pub returns-in-Err-clause-leads : goal.returns-in-Err-clause-leads
returns-in-Err-clause-leads c = λ place found.
    let m = c.args.self.now in
    let n : Engine = record m { overlay = c.deliver.new.self } in
    let number = c.args.number in
    let at = place_found (outstanding m.ledger.records) number place found in
    let bytes = c.in-Some.flight.bytes.now in
    let is = c.in-Some.ensures.bytes place found in
    let still = failed_still m.overlay c.deliver.new.self (frame_of m.overlay.settings bytes)
    (frame_there m c.requires.ready place number at bytes is).frame (frame_read m c.requires.ready place number at bytes is) c.in-Err.ensures.failed
    c.deliver.ensures.settings in
    let outcome = takes_number (seen m) (slice_get (outstanding m.ledger.records) place) in
    subst (λ s. LeadsTo outcome m (Err s) n) (sym c.from-in-Err.ensures) (wanting outcome m n c.requires.ready refl refl refl still)
