use Rattle.std.proofs.Common.{◌≡◌, ℕ, ◌+◌, [], ◌∷◌, ◌++◌, List, length, ap, sym, subst, ◌∙◌, arith, append_assoc}
use Rattle.std.specs.Option.{option_to_list}
use Rattle.tap_log.specs.declared.record.Record.TheVariants.{Sent}
use Rattle.tap_log.specs.Counts.{sent_count}
use Rattle.tap_ledger.specs.Added.{CanAdd}
use Rattle.tap_ledger.proofs.Adding.{can_first, can_rest}
use Rattle.tap_engine.specs.SeenTurns.{bytes_records}
use Rattle.tap_engine.proofs.Counting.{sent_on}
use Rattle.tap_engine.proofs.pushes.push_frames.Goals as goal

pub push_sent-requires-clause-can_add : goal.push_sent-requires-clause-can_add
push_sent-requires-clause-can_add c =
    let log = c.loop-bytes.ledger.records in
    let rest = c.pop_front.new.self.items in
    let Can : List (List ℕ) → Type 0 = λ l. CanAdd log (bytes_records (sent_count log) l) in
    let step : c.loop-bytes.frames.items ≡ c.in-Some.bytes ∷ rest =
    c.pop_front.ensures.items ∙ ap (λ o. option_to_list o ++ rest) c.in-Some.is in
    let can = subst Can step c.loop-bytes.invariant.can_add in
    can_first log (Sent (sent_count log) c.in-Some.bytes ∷ []) (bytes_records (sent_count log + 1) rest) can

pub loop-bytes-preserved : goal.loop-bytes-preserved
loop-bytes-preserved c =
    let log = c.loop-bytes.ledger.records in
    let bytes = c.in-Some.bytes in
    let rest = c.pop_front.new.self.items in
    let number = sent_count log in
    let was = c.loop-bytes.invariant in
    let step : c.loop-bytes.frames.items ≡ bytes ∷ rest =
    c.pop_front.ensures.items ∙ ap (λ o. option_to_list o ++ rest) c.in-Some.is in
    let more : c.push_sent.new.self.records ≡ log ++ Sent number bytes ∷ [] =
    c.push_sent.ensures.records in
    let on : sent_count c.push_sent.new.self.records ≡ number + 1 = ap sent_count more ∙ sent_on log number bytes in
    let Can : List (List ℕ) → Type 0 = λ l. CanAdd log (bytes_records number l) in
    let can = can_rest log (Sent number bytes ∷ []) (bytes_records (number + 1) rest) (subst Can step was.can_add) in
    record {
      records = ap (λ n. c.push_sent.new.self.records ++ bytes_records n rest) on
          ∙ ap (λ l. l ++ bytes_records (number + 1) rest) more
          ∙ append_assoc log (Sent number bytes ∷ []) (bytes_records (number + 1) rest)
          ∙ ap (λ l. log ++ bytes_records number l) (sym step) ∙ was.records;
      can_add = subst (λ n. CanAdd c.push_sent.new.self.records (bytes_records n rest)) (sym on)
          (subst (λ l. CanAdd l (bytes_records (number + 1) rest)) (sym more) can);
      added = c.push_sent.ensures.added ∙ was.added;
      spare = omega (arith, ap length step, was.spare, c.push_sent.ensures.spare);
      room = omega (arith, ap length step, was.room, c.push_sent.ensures.spare);
    }
