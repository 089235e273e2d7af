use Rattle.std.proofs.Common.{◌≡◌, ℕ, ◌≤◌, ◌-◌, ◌∙◌, false, [], ◌∷◌, ◌++◌, List, length, ap, sym, subst, arith}
use Rattle.tap_outstanding.specs.Outstanding.{OutstandingValue}
use Rattle.tap_log.specs.declared.record.Record.{Record}
use Rattle.tap_log.specs.declared.record.Record.TheVariants.{Sent}
use Rattle.tap_log.specs.Counts.{sent_count}
use Rattle.tap_log.specs.Kinds.{asked_ticket, begun_cast, published_pair, withdrawn_pair}
use Rattle.tap_log.specs.Log.{last_of}
use Rattle.tap_log.specs.Reduced.{reduced}
use Rattle.tap_history.specs.Departing.{departing_of}
use Rattle.tap_ledger.specs.Added.{CanAdd}
use Rattle.tap_ledger.specs.KeptLedger.{Kept}
use Rattle.tap_ledger.specs.Ledger.{LedgerValue}
use Rattle.tap_ledger.specs.Pairs.{has_key}
use Rattle.tap_ledger.specs.Quiet.{is_moving_step}
use Rattle.tap_ledger.proofs.Keeping.{added_stay, kept_push, kept_whole, records_more}
use Rattle.tap_ledger.proofs.Keys.{keys_stay}
use Rattle.tap_ledger.proofs.Sending.{few_sent, sent_follows, sent_leaves, sent_tells}
use Rattle.tap_ledger.proofs.Staying.{count_stays, lists_stay}
use Rattle.tap_ledger.proofs.ledger.Ledger.push_sent.Goals as goal

pub send_reserved-number-requires-clause-few : goal.send_reserved-number-requires-clause-few
send_reserved-number-requires-clause-few c =
    let log = reduced c.self.inside.log.records in
    let Can : LedgerValue → Type 0 = λ l. CanAdd l.records (Sent (sent_count l.records) c.args.bytes ∷ []) in
    let can = subst Can (sym c.self.view_is) c.requires.can_add in
    let sent = c.self.invariant.kept.flights.sent in
    let few = few_sent log (sent_count log) c.args.bytes can in
    omega (arith, sent, few)

pub invariant_of-self : goal.invariant_of-self
invariant_of-self c =
    let whole = c.self.inside.log.records in
    let log = reduced whole in
    let settings = c.self.inside.settings in
    let frames = c.self.inside.frames in
    let lists = c.self.inside.roll.lists in
    let keys = c.self.inside.pairs.keys in
    let tickets = c.self.inside.tickets in
    let casts = c.self.inside.casts in
    let leaver = c.self.inside.leaver in
    let bytes = c.args.bytes in
    let kept = c.self.invariant.kept in
    let room = c.self.invariant.room in
    let within = c.self.invariant.within in
    let last = last_of log in
    let number = c.send_reserved-number.result in
    let number_is : number ≡ sent_count log = c.send_reserved-number.ensures.number ∙ kept.flights.sent in
    let item : Record = Sent number bytes in
    let Can : LedgerValue → Type 0 = λ l. CanAdd l.records (Sent (sent_count l.records) bytes ∷ []) in
    let can = subst (λ n. CanAdd log (Sent n bytes ∷ [])) (sym number_is) (subst Can (sym c.self.view_is) c.requires.can_add) in
    let still : is_moving_step last ≡ false = ap (λ (l : LedgerValue). is_moving_step (last_of l.records)) c.self.view_is
    ∙ sym c.has_moving_step.ensures ∙ c.if-has_moving_step.false in
    let tells = sent_tells last number bytes still in
    let Keeps : List Record → List Record → ℕ → Type 0 = λ l w place. Kept l w settings c.send_reserved-number.new.self lists keys tickets casts leaver place in
    let spare : c.self.inside.room ≡ c.args.self.now.spare = ap (λ (l : LedgerValue). l.spare) c.self.view_is in
    let some : 1 ≤ c.self.inside.room = let asked = c.requires.room in omega (arith, spare, asked) in
    let left : c.send_reserved-number.new.self.room ≡ frames.room - 1 =
    ap (λ (s : OutstandingValue). s.room) c.send_reserved-number.ensures.after in
    record {
      kept = kept_whole Keeps whole c.push_reserved.new.self.records c.len-place.result item can c.push_reserved.ensures.records
          c.len-place.ensures (kept_push log whole settings frames lists keys tickets casts leaver c.self.inside.last item
          c.send_reserved-number.new.self lists keys tickets casts leaver kept can c.len.ensures.outstanding.ascending
          (sent_follows frames c.send_reserved-number.new.self c.len-place.result (length whole) number bytes
          c.send_reserved-number.ensures.after c.len-place.ensures)
          (lists_stay lists last item tells.nobody)
          (λ q. keys_stay (has_key keys) (withdrawn_pair item) (published_pair item) q tells.withdrawn tells.published)
          (count_stays tickets (asked_ticket item) tells.asked)
          (count_stays casts (begun_cast item) tells.begun)
          (sent_leaves last number bytes (departing_of log) leaver tells));
      within = omega (arith, within, some);
      most = let most = c.self.invariant.most in omega (arith, most);
      room = record {
        in_log = let was = room.in_log in omega (arith, was, some, within, c.push_reserved.ensures.spare);
        in_frames = let was = room.in_frames in omega (arith, was, some, within, left);
        in_roll = let was = room.in_roll in omega (arith, was, some, within);
        in_pairs = let was = room.in_pairs in omega (arith, was, some, within);
      };
    }

pub returns-clause-records : goal.returns-clause-records
returns-clause-records c =
    let whole = c.self.inside.log.records in
    let log = reduced whole in
    let bytes = c.args.bytes in
    let number_is : c.send_reserved-number.result ≡ sent_count log = c.send_reserved-number.ensures.number ∙ c.self.invariant.kept.flights.sent in
    let Can : LedgerValue → Type 0 = λ l. CanAdd l.records (Sent (sent_count l.records) bytes ∷ []) in
    let can = subst Can (sym c.self.view_is) c.requires.can_add in
    let is = c.push_reserved.ensures.records ∙ ap (λ n. whole ++ Sent n bytes ∷ []) number_is in
    records_more whole c.push_reserved.new.self.records (Sent (sent_count log) bytes) can is
    ∙ ap (λ (l : LedgerValue). l.records ++ Sent (sent_count l.records) bytes ∷ []) c.self.view_is

pub returns-clause-added : goal.returns-clause-added
returns-clause-added c =
    let whole = c.self.inside.log.records in
    let log = reduced whole in
    let bytes = c.args.bytes in
    let number_is : c.send_reserved-number.result ≡ sent_count log = c.send_reserved-number.ensures.number ∙ c.self.invariant.kept.flights.sent in
    let Can : LedgerValue → Type 0 = λ l. CanAdd l.records (Sent (sent_count l.records) bytes ∷ []) in
    let can = subst Can (sym c.self.view_is) c.requires.can_add in
    let is = c.push_reserved.ensures.records ∙ ap (λ n. whole ++ Sent n bytes ∷ []) number_is in
    added_stay whole c.push_reserved.new.self.records (Sent (sent_count log) bytes) can is
    ∙ ap (λ (l : LedgerValue). l.added) c.self.view_is
