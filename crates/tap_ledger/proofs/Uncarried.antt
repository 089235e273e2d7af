-- What holds of a log in which no packet was made.
use Rattle.std.proofs.Common.{◌≡◌, ℕ, ◌+◌, ◌<◌, ◌≤◌, Bool, true, false, nat_eq, List, [], ◌∷◌, length, Option, None, Some, refl, ap, ◌∙◌, arith}
use Rattle.std.specs.Prelude.{◌&&◌, if◌then◌else◌, is_some}
use Rattle.std.specs.List.{filter_map, cons_option}
use Rattle.tap_log.specs.declared.record.Record.{Record}
use Rattle.tap_name.specs.Settings.{SettingsValue}
use Rattle.tap_log.specs.declared.record.Record.TheVariants.{Begin, Packet}
use Rattle.tap_log.specs.MoreRecords.{at_most_one}
use Rattle.tap_history.specs.Refusals.{begin_settings}
use Rattle.tap_log.specs.Counts.{cast_count, resends_after, resent_count, resent_from, sent_count, ticket_count}
use Rattle.tap_log.specs.Kinds.{arrived_number, asked_ticket, begun_cast, packet_number, sent_number}
use Rattle.tap_history.specs.Moments.{acknowledged_by, acknowledged_by_all, awaiting, numbers_less}
use Rattle.tap_history.proofs.Less.{filter_map_within, less_by-none}

-- if one that there may be comes before a list and all is empty, there is none, and the list is empty
first_none : {X : Type 0} (o : Option X) (xs : List X) → cons_option o xs ≡ [] → (o ≡ None) × (xs ≡ [])
first_none None xs is = (refl, is)
first_none (Some x) xs is = absurd (cc)

-- nothing counts as 0
counts_none : (b : Bool) → ◌≡◌ {A = ℕ} (if b && false then 1 else 0) 0
counts_none true = refl
counts_none false = refl

-- if no packet was made, none was made once more
resent_none : (before : Bool) (log : List Record) → filter_map packet_number log ≡ [] → resent_from before log ≡ 0
resent_none before [] none = refl
resent_none before (item ∷ items) none =
    let both = first_none (packet_number item) (filter_map packet_number items) none in
    let later = resent_none (resends_after before item) items both.1 in
    let count : Option ℕ → ℕ = λ o. if before && is_some o then 1 else 0 in
    let here : count (packet_number item) ≡ 0 = ap count both.0 ∙ counts_none before in
    ap (λ n. n + resent_from (resends_after before item) items) here ∙ (omega (arith, later))

-- ticks and repeats made no packet
pub none_resent : (log : List Record) → filter_map packet_number log ≡ [] → resent_count log ≡ 0
none_resent log none = resent_none false log none

-- if no packet was made, none acknowledges a frame
none_acknowledged : (packets : List ℕ) (log : List Record) → filter_map packet_number log ≡ [] → acknowledged_by_all packets log ≡ []
unfolding acknowledged_by packet_number
none_acknowledged packets [] none = refl
none_acknowledged packets (Packet number frame ack ∷ items) none = absurd (cc)
none_acknowledged packets (item ∷ items) none = none_acknowledged packets items none

-- each frame that was sent awaits its acknowledgement
pub all_await : (log : List Record) → filter_map packet_number log ≡ [] → length (awaiting log) ≡ sent_count log
all_await log none =
    ap (λ l. length l) (ap (λ acknowledged. numbers_less (filter_map sent_number log) acknowledged)
    (none_acknowledged (filter_map arrived_number log) log none) ∙ less_by-none nat_eq (filter_map sent_number log))

-- ---- counts

-- fewer are told of than there are records, if the beginning tells of none
counts_fit : (h : Record → Option ℕ) → ((p : SettingsValue) (limit : ℕ) (members : List (List ℕ)) → h (Begin p limit members) ≡ None)
    → (settings : SettingsValue) (log : List Record) → begin_settings log ≡ Some settings → length (filter_map h log) < length log
unfolding begin_settings
counts_fit h none settings [] is = absurd (cc)
counts_fit h none settings (Begin p limit members ∷ items) is =
    let within = filter_map_within h items in
    let size = ap (λ o. length (cons_option o (filter_map h items))) (none p limit members) in
    omega (arith, within, size)
counts_fit h none settings (first ∷ items) is = absurd (cc)

-- fewer lookups were asked than there are records
pub tickets_fit : (settings : SettingsValue) (log : List Record) → begin_settings log ≡ Some settings → ticket_count log < length log
unfolding asked_ticket
tickets_fit settings log is = counts_fit asked_ticket (λ p limit members. refl) settings log is

-- fewer casts began than there are records
pub casts_fit : (settings : SettingsValue) (log : List Record) → begin_settings log ≡ Some settings → cast_count log < length log
unfolding begun_cast
casts_fit settings log is = counts_fit begun_cast (λ p limit members. refl) settings log is

-- one more record tells of one or of none
pub at_most : {X : Type 0} (one : Option X) → length (at_most_one one) ≤ 1
at_most None = omega arith
at_most (Some x) = omega arith
