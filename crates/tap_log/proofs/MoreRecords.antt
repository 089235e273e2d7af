-- What more records at the end of a log change in what its records tell.
-- Cited above: begun_steps-push, bytes_of-append, bytes_of-push, carried_alone, carried_none, carried_second, carried_third, EachRecord-push,
-- filter_map-push, filter_map-same, is_carried-push, last_of-push, one_more_record_holds, packet_count-append, resent_count-append,
-- resent_count-push, sent_count-append, ticket_count-append
use Rattle.std.proofs.Common.{◌≡◌, ◌≢◌, ℕ, ◌+◌, Bool, false, List, [], ◌∷◌, ◌++◌, length, Option, None, Some, refl, ap, sym, ◌∙◌, arith, append_assoc, append-nil, length-append, subst, add-zero}
use Rattle.std.specs.Prelude.{◌&&◌, if◌then◌else◌, fold, is_some, slice_get}
use Rattle.std.specs.List.{filter_map}
use Rattle.std.proofs.lemmas.List.Elements.{filter_map-append}
use Rattle.std.proofs.lemmas.List.Sums.{fold-append}
use Rattle.tap_log.specs.declared.record.Record.{Record}
use Rattle.tap_log.specs.declared.record.Record.TheVariants.{Begin, Carrier}
use Rattle.tap_log.specs.Kinds.{asked_ticket, begun_cast, is_carried, packet_number, sent_number, step_of}
use Rattle.tap_log.specs.Log.{EachFrom, EachRecord, begun_steps, last_of}
use Rattle.tap_log.specs.Counts.{cast_count, packet_count, resends_after, resent_count, resent_from, sent_count, ticket_count}
use Rattle.tap_log.specs.Frames.{bytes_of, sent_bytes}
use Rattle.tap_log.specs.MoreRecords.{MoreRecords, OneMoreRecord, at_most_one, first_of_both, is_resending}

-- what the records tell, with one more
pub filter_map-push : {Y : Type 0} (h : Record → Option Y) (log : List Record) (item : Record)
    → filter_map h (log ++ item ∷ []) ≡ filter_map h log ++ at_most_one (h item)
filter_map-push h log item = filter_map-append h log (item ∷ [])

pub filter_map-same : {Y : Type 0} (h : Record → Option Y) (log : List Record) (item : Record) → h item ≡ None
    → filter_map h (log ++ item ∷ []) ≡ filter_map h log
filter_map-same h log item none =
    filter_map-push h log item ∙ ap (λ o. filter_map h log ++ at_most_one o) none ∙ append-nil (filter_map h log)

pub last_of-push : (log : List Record) (item : Record) → last_of (log ++ item ∷ []) ≡ Some item
last_of-push [] item = refl
last_of-push (first ∷ []) item = refl
last_of-push (first ∷ next ∷ items) item = last_of-push (next ∷ items) item

EachFrom-push : (P : List Record → Record → Type 0) (before log : List Record) (item : Record) → EachFrom P before log
    → P (before ++ log) item → EachFrom P before (log ++ item ∷ [])
EachFrom-push P before [] item each p = let Q : List Record → Type 0 = λ b. P b item in (subst Q (append-nil before) p, tt)
EachFrom-push P before (first ∷ items) item each p =
    let Q : List Record → Type 0 = λ b. P b item in
    (each.0, EachFrom-push P (before ++ first ∷ []) items item each.1 (subst Q (sym (append_assoc before (first ∷ []) items)) p))

-- what holds of each record of a log, and of one more after them, holds of each of the longer log
pub EachRecord-push : (P : List Record → Record → Type 0) (log : List Record) (item : Record) → EachRecord P log → P log item
    → EachRecord P (log ++ item ∷ [])
EachRecord-push P log item each p = EachFrom-push P [] log item each p

-- ---- whether the log is carried

pub carried_alone : (item : Record) → is_carried (item ∷ []) ≡ false
unfolding is_carried
carried_alone (Begin settings frames members) = refl
carried_alone item = refl

pub carried_second : (first item : Record) → item ≢ Carrier → is_carried (first ∷ item ∷ []) ≡ false
unfolding is_carried
carried_second (Begin settings frames members) Carrier other = absurd (other refl)
carried_second (Begin settings frames members) item other = refl
carried_second first item other = refl

pub carried_third : (first next : Record) (items more : List Record) → is_carried (first ∷ next ∷ items) ≡ is_carried (first ∷ next ∷ more)
unfolding is_carried
carried_third (Begin settings frames members) Carrier items more = refl
carried_third (Begin settings frames members) next items more = refl
carried_third first next items more = refl

pub carried_none : is_carried [] ≡ false
unfolding is_carried
carried_none = refl

pub is_carried-push : (log : List Record) (item : Record) → item ≢ Carrier → is_carried (log ++ item ∷ []) ≡ is_carried log
is_carried-push [] item other = carried_alone item ∙ sym carried_none
is_carried-push (first ∷ []) item other = carried_second first item other ∙ sym (carried_alone first)
is_carried-push (first ∷ next ∷ items) item other = carried_third first next (items ++ item ∷ []) items

-- ---- steps

pub begun_steps-push : (log : List Record) (item : Record) → begun_steps (log ++ item ∷ []) ≡ begun_steps log ++ at_most_one (step_of item)
begun_steps-push = filter_map-push step_of

-- ---- counts

counted : {Y : Type 0} (h : Record → Option Y) (log more : List Record)
    → length (filter_map h (log ++ more)) ≡ length (filter_map h log) + length (filter_map h more)
counted h log more = ap length (filter_map-append h log more) ∙ length-append (filter_map h log) (filter_map h more)

pub sent_count-append : (log more : List Record) → sent_count (log ++ more) ≡ sent_count log + sent_count more
sent_count-append = counted sent_number

pub packet_count-append : (log more : List Record) → packet_count (log ++ more) ≡ packet_count log + packet_count more
packet_count-append = counted packet_number

pub ticket_count-append : (log more : List Record) → ticket_count (log ++ more) ≡ ticket_count log + ticket_count more
ticket_count-append = counted asked_ticket

pub cast_count-append : (log more : List Record) → cast_count (log ++ more) ≡ cast_count log + cast_count more
cast_count-append = counted begun_cast

-- the packets that records make once more, after other records
resent_from-append : (before : Bool) (log more : List Record)
    → resent_from before (log ++ more) ≡ resent_from before log + resent_from (fold resends_after before log) more
resent_from-append before [] more = let e : resent_from before more ≡ 0 + resent_from before more = omega arith in e
resent_from-append before (first ∷ items) more =
    let one : ℕ = (if before && is_some (packet_number first) then 1 else 0) in
    let after = resends_after before first in
    let rest = resent_from-append after items more in
    let e : one + resent_from after (items ++ more) ≡ (one + resent_from after items) + resent_from (fold resends_after after items) more =
    omega (arith, rest) in
    e

pub resent_count-append : (log more : List Record)
    → resent_count (log ++ more) ≡ resent_count log + resent_from (is_resending log) more
resent_count-append log more = resent_from-append false log more

pub resent_count-push : (log : List Record) (item : Record)
    → resent_count (log ++ item ∷ []) ≡ resent_count log + (if is_resending log && is_some (packet_number item) then 1 else 0)
resent_count-push log item =
    resent_count-append log (item ∷ [])
    ∙ ap (λ n. resent_count log + n) (add-zero (if is_resending log && is_some (packet_number item) then 1 else 0))

pub is_resending-append : (log more : List Record) → is_resending (log ++ more) ≡ fold resends_after (is_resending log) more
is_resending-append log more = fold-append resends_after false log more

-- ---- the bytes of frames

first_added : {X : Type 0} (xs ys : List X) → slice_get (xs ++ ys) 0 ≡ first_of_both (slice_get xs 0) (slice_get ys 0)
first_added [] ys = refl
first_added (x ∷ xs) ys = refl

first_alone : {X : Type 0} (one : Option X) → slice_get (at_most_one one) 0 ≡ one
first_alone None = refl
first_alone (Some x) = refl

pub bytes_of-append : (log more : List Record) (number : ℕ)
    → bytes_of (log ++ more) number ≡ first_of_both (bytes_of log number) (bytes_of more number)
bytes_of-append log more number =
    ap (λ l. slice_get l 0) (filter_map-append (sent_bytes number) log more)
    ∙ first_added (filter_map (sent_bytes number) log) (filter_map (sent_bytes number) more)

pub bytes_of-push : (log : List Record) (item : Record) (number : ℕ)
    → bytes_of (log ++ item ∷ []) number ≡ first_of_both (bytes_of log number) (sent_bytes number item)
bytes_of-push log item number =
    bytes_of-append log (item ∷ []) number ∙ ap (first_of_both (bytes_of log number)) (first_alone (sent_bytes number item))

-- ---- the laws

pub one_more_record_holds : OneMoreRecord
one_more_record_holds =
    record {
      carried = is_carried-push;
      steps = begun_steps-push;
      sent = λ log item. sent_count-append log (item ∷ []);
      packets = λ log item. packet_count-append log (item ∷ []);
      tickets = λ log item. ticket_count-append log (item ∷ []);
      casts = λ log item. cast_count-append log (item ∷ []);
      resent = resent_count-push;
      resending = λ log item. is_resending-append log (item ∷ []);
      bytes = bytes_of-push;
    }

pub more_records_hold : MoreRecords
more_records_hold =
    record {
      sent = sent_count-append;
      packets = packet_count-append;
      tickets = ticket_count-append;
      casts = cast_count-append;
      resent = resent_count-append;
      resending = is_resending-append;
      bytes = bytes_of-append;
    }
