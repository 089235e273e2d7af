use Rattle.std.proofs.Common.{◌≡◌, ℕ, ◌≤◌, ◌+◌, ◌∙◌, true, [], ◌∷◌, ◌++◌, List, ap, sym, subst, arith}
use Rattle.tap_log.specs.declared.record.Record.{Record}
use Rattle.tap_log.specs.Kinds.{asked_ticket, begun_cast}
use Rattle.tap_log.specs.Log.{last_of}
use Rattle.tap_log.specs.Reduced.{reduced}
use Rattle.tap_log.proofs.MoreRecords.{one_more_record_holds}
use Rattle.tap_history.specs.Departing.{departing_of}
use Rattle.tap_ledger.specs.Added.{CanAdd}
use Rattle.tap_ledger.specs.Flights.{followed}
use Rattle.tap_ledger.specs.KeptLedger.{Kept}
use Rattle.tap_ledger.specs.Ledger.{LedgerValue}
use Rattle.tap_ledger.specs.Quiet.{is_request}
use Rattle.tap_ledger.proofs.Keeping.{added_stay, kept_push, kept_whole, records_more}
use Rattle.tap_ledger.proofs.Staying.{lists_stay, request_leaves, request_tells}
use Rattle.tap_ledger.proofs.Uncarried.{at_most, casts_fit, tickets_fit}
use Rattle.tap_ledger.proofs.Woven.{reduced_within}
use Rattle.tap_ledger.proofs.ledger.Ledger.push_request.Goals as goal

pub follow-requires-clause-few : goal.follow-requires-clause-few
follow-requires-clause-few c =
    let log = reduced c.self.inside.log.records in
    let Can : LedgerValue → Type 0 = λ l. CanAdd l.records (c.args.item ∷ []) in
    let can = subst Can (sym c.self.view_is) c.requires.can_add in
    let within = can.within in
    let sent = c.self.invariant.kept.flights.sent in
    omega (arith, sent, within, one_more_record_holds.sent log c.args.item)

pub overflow_add-self : goal.overflow_add-self
overflow_add-self c =
    let kept = c.self.invariant.kept in
    let whole = c.self.inside.log.records in
    let log = reduced whole in
    let asked = kept.asked in
    let few = tickets_fit c.self.inside.settings log kept.begins.begins in
    let most = at_most (asked_ticket c.args.item) in
    omega (arith, asked, few, most, c.counted_ticket.ensures, c.len-place.ensures, reduced_within whole)

pub overflow_add-self-2 : goal.overflow_add-self-2
overflow_add-self-2 c =
    let kept = c.self.invariant.kept in
    let whole = c.self.inside.log.records in
    let log = reduced whole in
    let begun = kept.begun in
    let few = casts_fit c.self.inside.settings log kept.begins.begins in
    let most = at_most (begun_cast c.args.item) in
    omega (arith, begun, few, most, c.counted_cast.ensures, c.len-place.ensures, reduced_within whole)

pub invariant_of-self : goal.invariant_of-self
invariant_of-self c =
    let whole = c.self.inside.log.records in
    let log = reduced whole in
    let settings = c.self.inside.settings in
    let frames = c.self.inside.frames in
    let lists = c.self.inside.roll.lists in
    let leaver = c.self.inside.leaver in
    let item = c.args.item in
    let kept = c.self.invariant.kept in
    let room = c.self.invariant.room in
    let within = c.self.invariant.within in
    let last = last_of log in
    let tickets = c.self.inside.tickets + c.counted_ticket.result in
    let casts = c.self.inside.casts + c.counted_cast.result in
    let keys = c.change.new.self.keys in
    let Can : LedgerValue → Type 0 = λ l. CanAdd l.records (item ∷ []) in
    let can = subst Can (sym c.self.view_is) c.requires.can_add in
    let IsOne : LedgerValue → Type 0 = λ l. is_request (last_of l.records) item ≡ true in
    let tells = request_tells last item (subst IsOne (sym c.self.view_is) c.requires.request) in
    let Keeps : List Record → List Record → ℕ → Type 0 = λ l w place. Kept l w settings c.follow.new.frames lists keys tickets casts leaver place in
    let spare : c.self.inside.room ≡ c.args.self.now.spare = ap (λ (l : LedgerValue). l.spare) c.self.view_is in
    let some : 1 ≤ c.self.inside.room = let asked = c.requires.room in omega (arith, spare, asked) in
    record {
      kept = kept_whole Keeps whole c.push_reserved.new.self.records c.len-place.result item can c.push_reserved.ensures.records
          c.len-place.ensures (kept_push log whole settings frames lists c.self.inside.pairs.keys
          c.self.inside.tickets c.self.inside.casts leaver c.self.inside.last item c.follow.new.frames lists keys tickets casts leaver kept can c.follow.ensures.ascending.ascending
          (c.follow.ensures.frames ∙ ap (λ n. followed frames n item) c.len-place.ensures)
          (lists_stay lists last item tells.nobody)
          c.change.ensures.pairs
          (ap (λ n. c.self.inside.tickets + n) c.counted_ticket.ensures)
          (ap (λ n. c.self.inside.casts + n) c.counted_cast.ensures)
          (request_leaves last item (departing_of log) leaver tells));
      within = omega (arith, within, some);
      most = let most = c.self.invariant.most in omega (arith, most);
      room = record {
        in_log = let was = room.in_log in omega (arith, was, some, within, c.push_reserved.ensures.spare);
        in_frames = let was = room.in_frames in omega (arith, was, some, within, c.follow.ensures.room);
        in_roll = let was = room.in_roll in omega (arith, was, some, within);
        in_pairs = let was = room.in_pairs in omega (arith, was, some, within, c.change.ensures.room);
      };
    }

pub returns-clause-records : goal.returns-clause-records
returns-clause-records c =
    let item = c.args.item in
    let Can : LedgerValue → Type 0 = λ l. CanAdd l.records (item ∷ []) in
    records_more c.self.inside.log.records c.push_reserved.new.self.records item (subst Can (sym c.self.view_is) c.requires.can_add)
    c.push_reserved.ensures.records
    ∙ ap (λ (l : LedgerValue). l.records ++ item ∷ []) c.self.view_is

pub returns-clause-added : goal.returns-clause-added
returns-clause-added c =
    let item = c.args.item in
    let Can : LedgerValue → Type 0 = λ l. CanAdd l.records (item ∷ []) in
    added_stay c.self.inside.log.records c.push_reserved.new.self.records item (subst Can (sym c.self.view_is) c.requires.can_add)
    c.push_reserved.ensures.records
    ∙ ap (λ (l : LedgerValue). l.added) c.self.view_is
