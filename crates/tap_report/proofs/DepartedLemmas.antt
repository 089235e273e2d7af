-- What is known of departures is what the log's own definitions say.
use Rattle.std.proofs.Common.{◌≡◌, ℕ, ◌+◌, Bool, true, false, List, [], ◌∷◌, ◌++◌, length, Option, None, Some, refl, ap, sym, ◌∙◌, append_assoc, append-nil, arith}
use Rattle.std.specs.Prelude.{fold, cond, if◌then◌else◌}
use Rattle.std.specs.Option.{option_or}
use Rattle.std.specs.List.{filter_map, last_or}
use Rattle.std.proofs.lemmas.List.Elements.{filter_map-append}
use Rattle.tap_log.specs.declared.record.Record.{Record}
use Rattle.tap_log.specs.declared.record.Record.TheVariants as rec
use Rattle.tap_log.specs.Kinds.{accepts, begin_members, is_carried, step_of}
use Rattle.tap_history.specs.StepAsks.{depart_name}
use Rattle.tap_history.specs.Core.{accepted_step, accepted_steps, departures_of, members_of}
use Rattle.tap_history.specs.RecordLaws.{accepted_next}
use Rattle.tap_log.specs.MoreRecords.{at_most_one}
use Rattle.tap_log.specs.Log.{last_of}
use Rattle.tap_history.proofs.RecordChanges.{accepted_steps-push}
use Rattle.tap_log.proofs.MoreRecords.{last_of-push}
use Rattle.tap_report.specs.Summary.{departed_after, is_departed, last_departure}
use Rattle.tap_report.specs.Tally.{asked_last, departure_accepted_after, departure_asked_by, departures_after, departures_known, log_opening, members_after, opening_after, opens_carried}
use Rattle.tap_report.specs.declared.opening.Opening.TheVariants.{Carried, Plain}

-- ---- the opening

plain_stays : (items : List Record) → fold opening_after Plain items ≡ Plain
plain_stays [] = refl
plain_stays (item ∷ items) = plain_stays items

carried_stays : (items : List Record) → fold opening_after Carried items ≡ Carried
carried_stays [] = refl
carried_stays (item ∷ items) = carried_stays items

-- the opening says whether the log is carried
pub opening_tells : (log : List Record) → opens_carried (log_opening log) ≡ is_carried log
unfolding is_carried
opening_tells [] = refl
opening_tells (rec.Begin settings frames members ∷ []) = refl
opening_tells (item ∷ []) = refl
opening_tells (rec.Begin settings frames members ∷ rec.Carrier ∷ items) = ap opens_carried (carried_stays items)
opening_tells (rec.Begin settings frames members ∷ item ∷ items) = ap opens_carried (plain_stays items)
opening_tells (first ∷ item ∷ items) = ap opens_carried (plain_stays items)

-- ---- members

later_members : (first : Record) (items : List Record) (members : ℕ) (item : Record)
    → members_after (log_opening (first ∷ items)) members item ≡ members
later_members (rec.Begin settings frames names) [] members item = refl
later_members first [] members item = refl
later_members (rec.Begin settings frames names) (rec.Carrier ∷ items) members item =
    ap (λ o. members_after o members item) (carried_stays items)
later_members (rec.Begin settings frames names) (next ∷ items) members item = ap (λ o. members_after o members item) (plain_stays items)
later_members first (next ∷ items) members item = ap (λ o. members_after o members item) (plain_stays items)

pub members-push : (log : List Record) (item : Record)
    → length (members_of (log ++ item ∷ [])) ≡ members_after (log_opening log) (length (members_of log)) item
members-push [] item = refl
members-push (first ∷ items) item = sym (later_members first items (length (begin_members first)) item)

-- ---- the departure that was accepted last

asks_one : (b : Bool) (last : Record) → filter_map depart_name (at_most_one (if b then step_of last else None))
    ≡ at_most_one (if b then departure_asked_by last else None)
asks_one false last = refl
asks_one true (rec.Step index step) = refl
asks_one true last = refl

none_either : (b : Bool) → let none : Option (List ℕ) = None in [] ≡ at_most_one (if b then none else none)
none_either true = refl
none_either false = refl

departs_one : (carried : Bool) (last : Option Record) (item : Record)
    → filter_map depart_name (accepted_next carried last item) ≡ at_most_one (if accepts carried item then asked_last last else None)
unfolding accepted_step
departs_one carried None item = none_either (accepts carried item)
departs_one carried (Some last) item = asks_one (accepts carried item) last

last_more : {X : Type 0} (before new : Option X) (xs : List X) → last_or before (xs ++ at_most_one new) ≡ option_or new (last_or before xs)
last_more before None [] = refl
last_more before (Some x) [] = refl
last_more before new (x ∷ xs) = last_more (Some x) new xs

where_accepted : {X : Type 0} (b : Bool) (asked before : Option X)
    → option_or (if b then asked else None) before ≡ (if b then option_or asked before else before)
where_accepted true asked before = refl
where_accepted false asked before = refl

-- the departure that was accepted last, with one record more
pub last_departure-push : (log : List Record) (item : Record)
    → last_departure (log ++ item ∷ []) ≡ departure_accepted_after (is_carried log) (departures_known log) item
last_departure-push log item =
    let carried = is_carried log in
    let asked = asked_last (last_of log) in
    ap (λ l. last_or None (filter_map depart_name l)) (accepted_steps-push log item)
    ∙ ap (last_or None) (filter_map-append depart_name (accepted_steps log) (accepted_next carried (last_of log) item))
    ∙ ap (λ l. last_or None (departures_of log ++ l)) (departs_one carried (last_of log) item)
    ∙ last_more None (if accepts carried item then asked else None) (departures_of log)
    ∙ where_accepted (accepts carried item) asked (last_departure log)

-- ---- the departed nodes

departed_after-push : (before items : List Record) (item : Record)
    → departed_after before (items ++ item ∷ [])
    ≡ departed_after before items + cond (is_departed (before ++ items) item) 1 0
departed_after-push before [] item =
    let same = ap (λ l. cond {A = ℕ} (is_departed l item) 1 0) (append-nil before) in omega (arith, same)
departed_after-push before (first ∷ items) item =
    let rest = departed_after-push (before ++ first ∷ []) items item in
    let same = ap (λ l. cond {A = ℕ} (is_departed l item) 1 0) (append_assoc before (first ∷ []) items) in
    omega (arith, rest, same)

-- what is known of departures, with one record more
pub departures-push : (log : List Record) (item : Record)
    → departures_known (log ++ item ∷ []) ≡ departures_after (is_carried log) (departures_known log) item
departures-push log item =
    rw (last_of-push log item, departed_after-push [] log item, last_departure-push log item) refl
