use Rattle.std.proofs.Common.{◌≡◌, ℕ, ◌≤◌, ◌∙◌, true, false, [], ◌∷◌, ◌++◌, List, ap, sym, subst, arith}
use Rattle.std.specs.Prelude.{if◌then◌else◌, None}
use Rattle.tap_log.specs.declared.record.Record.{Record}
use Rattle.tap_log.specs.Kinds.{asked_ticket, begins_group, begun_cast, published_pair, withdrawn_pair}
use Rattle.tap_log.specs.Log.{last_of}
use Rattle.tap_log.specs.Reduced.{reduced}
use Rattle.tap_log.proofs.MoreRecords.{one_more_record_holds}
use Rattle.tap_history.specs.Departing.{departing_of}
use Rattle.tap_ledger.specs.Added.{CanAdd}
use Rattle.tap_ledger.specs.Flights.{followed}
use Rattle.tap_ledger.specs.KeptLedger.{Kept, leaver_next}
use Rattle.tap_ledger.specs.Ledger.{LedgerValue}
use Rattle.tap_ledger.specs.Pairs.{has_key}
use Rattle.tap_ledger.specs.Quiet.{is_quiet}
use Rattle.tap_ledger.proofs.Asked.{departing_by}
use Rattle.tap_ledger.proofs.Keeping.{added_stay, kept_push, kept_whole, records_more}
use Rattle.tap_ledger.proofs.Keys.{keys_stay}
use Rattle.tap_ledger.proofs.Staying.{count_stays, lists_stay, quiet_tells}
use Rattle.tap_ledger.proofs.ledger.Ledger.push_quiet.Goals as goal

pub follow-requires-clause-few : goal.follow-requires-clause-few
follow-requires-clause-few c =
    let log = reduced c.self.inside.log.records in
    let Can : LedgerValue → Type 0 = λ l. CanAdd l.records (c.args.item ∷ []) in
    let can = subst Can (sym c.self.view_is) c.requires.can_add in
    let within = can.within in
    let sent = c.self.invariant.kept.flights.sent in
    omega (arith, sent, within, one_more_record_holds.sent log c.args.item)

pub invariant_of-self : goal.invariant_of-self
invariant_of-self c =
    let whole = c.self.inside.log.records in
    let log = reduced whole in
    let settings = c.self.inside.settings in
    let frames = c.self.inside.frames in
    let lists = c.self.inside.roll.lists in
    let keys = c.self.inside.pairs.keys in
    let tickets = c.self.inside.tickets in
    let casts = c.self.inside.casts in
    let leaver = c.self.inside.leaver in
    let item = c.args.item in
    let kept = c.self.invariant.kept in
    let room = c.self.invariant.room in
    let within = c.self.invariant.within in
    let last = last_of log in
    let Can : LedgerValue → Type 0 = λ l. CanAdd l.records (item ∷ []) in
    let can = subst Can (sym c.self.view_is) c.requires.can_add in
    let Quiet : LedgerValue → Type 0 = λ l. is_quiet (last_of l.records) item ≡ true in
    let tells = quiet_tells last item (subst Quiet (sym c.self.view_is) c.requires.quiet) in
    let departing : (if c.is_empty-rest.result then None else leaver) ≡ departing_of log =
    departing_by log whole frames leaver c.is_empty-rest.result kept.flights kept.leaves c.is_empty-rest.ensures in
    let Keeps : List Record → List Record → ℕ → Type 0 = λ l w place. Kept l w settings c.follow.new.frames lists keys tickets casts c.settle_leaver.new.leaver place in
    let spare : c.self.inside.room ≡ c.args.self.now.spare = ap (λ (l : LedgerValue). l.spare) c.self.view_is in
    let some : 1 ≤ c.self.inside.room = let asked = c.requires.room in omega (arith, spare, asked) in
    record {
      kept = kept_whole Keeps whole c.push_reserved.new.self.records c.len-place.result item can c.push_reserved.ensures.records
          c.len-place.ensures (kept_push log whole settings frames lists keys tickets casts leaver c.self.inside.last item
          c.follow.new.frames lists keys tickets casts c.settle_leaver.new.leaver kept can c.follow.ensures.ascending.ascending
          (c.follow.ensures.frames ∙ ap (λ n. followed frames n item) c.len-place.ensures)
          (lists_stay lists last item tells.nobody)
          (λ q. keys_stay (has_key keys) (withdrawn_pair item) (published_pair item) q tells.withdrawn tells.published)
          (count_stays tickets (asked_ticket item) tells.asked)
          (count_stays casts (begun_cast item) tells.begun)
          (c.settle_leaver.ensures
          ∙ ap (λ b. leaver_next b (if c.is_empty-rest.result then None else leaver) None leaver) c.begins_group.ensures
          ∙ ap (λ d. leaver_next (begins_group false item) d None leaver) departing
          ∙ ap (λ d. leaver_next (begins_group false item) (departing_of log) d leaver) (sym tells.nobody.departs)));
      within = omega (arith, within, some);
      most = let most = c.self.invariant.most in omega (arith, most);
      room = record {
        in_log = let was = room.in_log in omega (arith, was, some, within, c.push_reserved.ensures.spare);
        in_frames = let was = room.in_frames in omega (arith, was, some, within, c.follow.ensures.room);
        in_roll = let was = room.in_roll in omega (arith, was, some, within);
        in_pairs = let was = room.in_pairs in omega (arith, was, some, within);
      };
    }

pub returns-clause-records : goal.returns-clause-records
returns-clause-records c =
    let item = c.args.item in
    let Can : LedgerValue → Type 0 = λ l. CanAdd l.records (item ∷ []) in
    records_more c.self.inside.log.records c.push_reserved.new.self.records item (subst Can (sym c.self.view_is) c.requires.can_add)
    c.push_reserved.ensures.records
    ∙ ap (λ (l : LedgerValue). l.records ++ item ∷ []) c.self.view_is

pub returns-clause-added : goal.returns-clause-added
returns-clause-added c =
    let item = c.args.item in
    let Can : LedgerValue → Type 0 = λ l. CanAdd l.records (item ∷ []) in
    added_stay c.self.inside.log.records c.push_reserved.new.self.records item (subst Can (sym c.self.view_is) c.requires.can_add)
    c.push_reserved.ensures.records
    ∙ ap (λ (l : LedgerValue). l.added) c.self.view_is
