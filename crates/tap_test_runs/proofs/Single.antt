-- When one record may be added.
use Rattle.std.proofs.Common.{◌≡◌, ℕ, ◌+◌, ◌<◌, true, List, [], ◌∷◌, length, All, Option, None, Some, refl, ap, arith}
use Rattle.std.specs.Prelude.{◌&&◌, nat_lt, not, is_some}
use Rattle.std.specs.List.{range_with_len}
use Rattle.std.proofs.lemmas.Bool.{and_parts, eqb-true, ltb-true}
use Rattle.std.proofs.lemmas.List.Elements.{All-cons, All-nil}
use Rattle.tap_log.specs.declared.record.Record.{Record}
use Rattle.tap_log.specs.Counts.{sent_count, ticket_count}
use Rattle.tap_log.specs.Kinds.{asked_ticket, sent_number, taken_number}
use Rattle.tap_log.specs.MoreRecords.{at_most_one}
use Rattle.tap_log.proofs.MoreRecords.{one_more_record_holds}
use Rattle.tap_ledger.specs.Added.{CanAdd, is_plain, most_ledger_frames}
use Rattle.tap_test_runs.specs.Single.{can_add_one, is_next, number_is_below}
use Rattle.tap_test_runs.proofs.Lasts.{one_most}

-- at most one number goes on from the next one
goes_on : (one : Option ℕ) (n : ℕ) → is_next one n ≡ true → at_most_one one ≡ range_with_len n (length (at_most_one one))
goes_on None n is = refl
goes_on (Some m) n is = ap (λ k. k ∷ []) (eqb-true m n is)

-- at most one number is below another
all_below : (one : Option ℕ) (n : ℕ) → number_is_below one n ≡ true → All (λ k. k < n) (at_most_one one)
all_below None n is = All-nil (λ k. k < n)
all_below (Some m) n is = All-cons (λ k. k < n) m [] (ltb-true m n is) (All-nil (λ k. k < n))

-- none goes on from any number
none_on : (one : Option ℕ) (n : ℕ) → not (is_some one) ≡ true → at_most_one one ≡ range_with_len n (length (at_most_one one))
none_on None n none = refl
none_on (Some m) n none = absurd (cc)

-- one record may be added if it is plain and goes on with what is numbered
pub can_add_is : (log : List Record) (item : Record) → can_add_one log item ≡ true → CanAdd log (item ∷ [])
can_add_is log item is =
    let plain = is_plain item in
    let next = is_next (sent_number item) (sent_count log) in
    let few = nat_lt (sent_count log) most_ledger_frames in
    let taken = number_is_below (taken_number item) (sent_count log) in
    let silent = not (is_some (asked_ticket item)) in
    let sends = (and_parts (plain && (next && few)) (taken && silent) is).0 in
    let takes = (and_parts (plain && (next && few)) (taken && silent) is).1 in
    let numbered = (and_parts plain (next && few) sends).1 in
    let bound = ltb-true (sent_count log) most_ledger_frames ((and_parts next few numbered).1) in
    let size = one_more_record_holds.sent log item in
    let most = one_most (sent_number item) in
    record {
      plain = All-cons (λ other. is_plain other ≡ true) item [] ((and_parts plain (next && few) sends).0)
          (All-nil (λ other. is_plain other ≡ true));
      numbers = record {
        sent = goes_on (sent_number item) (sent_count log) ((and_parts next few numbered).0);
        taken = all_below (taken_number item) (sent_count log) ((and_parts taken silent takes).0);
        asked = none_on (asked_ticket item) (1 + ticket_count log) ((and_parts taken silent takes).1);
      };
      within = omega (arith, size, most, bound);
    }
