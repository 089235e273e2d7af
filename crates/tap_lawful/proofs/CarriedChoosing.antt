-- What the last step of a carried run has chosen, and what is due by it.
-- Cited above: arrival_due, due_back, items_same
use Rattle.std.proofs.Common.{◌≡◌, ◌⊎◌, inl, inr, ℕ, ◌≤◌, Bool, true, false, not, List, [], ◌∷◌, length, All, Option, None, Some, refl, ap, sym, subst, ◌∙◌, arith}
use Rattle.std.specs.Prelude.{◌&&◌, fold, slice_get, Contains}
use Rattle.std.proofs.lemmas.Bool.{eqb-true, false≢true}
use Rattle.std.proofs.lemmas.List.Elements.{All-head, All-tail, Contains-get_or}
use Rattle.std.proofs.lemmas.Option.{get_or_from_slice_get, option_and_then_some, slice_get_within}
use Rattle.tap_scenario.specs.declared.step.Step.{Step}
use Rattle.tap_scenario.specs.declared.step.Step.TheVariants.{Settle, SettleNewest, SettleMixed, Tick, Repeat}
use Rattle.tap_log.specs.declared.record.Record.{Record}
use Rattle.tap_log.specs.declared.record.Record.TheVariants.{Step as StepRecord, Arrived, Refused, Ticked}
use Rattle.tap_log.specs.Counts.{resends, resends_after}
use Rattle.tap_log.specs.Kinds.{begins_group}
use Rattle.tap_log.specs.MoreRecords.{is_resending}
use Rattle.tap_history.specs.Moments.{awaiting, is_none, under_way}
use Rattle.tap_packets.specs.Bounds.{IsCalm, due_after, is_due}
use Rattle.tap_packets.specs.Packets.{PacketLine, lines_under_way}
use Rattle.tap_lawful.specs.CarriedDue.{CarriedChoice, Due, arrival_chosen, carried_choice, carried_due, choice_after, due_by, due_of, due_unless, is_stranded, no_choice, tick_chosen}
use Rattle.tap_lawful.specs.CarriedDue.Due.{ArrivalDue, TickDue}
use Rattle.tap_lawful.specs.Due.{place_chosen}

-- ---- what is due

-- the last step wasn't refused, and it has this happen next
pub record DueBy (log : List Record) (due : Due) : Type 0 where
  pub step : Step
  pub is : (carried_choice log).step ≡ Some step
  pub accepted : (carried_choice log).refused ≡ false
  pub by : due_by (carried_choice log) log step ≡ Some due

pub due_back : (log : List Record) (due : Due) → carried_due log ≡ Some due → DueBy log due
due_back log due is = by_refused (carried_choice log).refused refl is
  where
    by_refused : (refused : Bool) → (carried_choice log).refused ≡ refused → due_unless refused (carried_choice log) log ≡ Some due
        → DueBy log due
    by_refused true was is = absurd (cc)
    by_refused false was is =
        option_and_then_some (due_by (carried_choice log) log) (carried_choice log).step due is
        (λ step last by. record { step = step; is = last; accepted = was; by = by })

arrival_back : (found : Option PacketLine) (ticks : Bool) (line : PacketLine) → due_of found ticks ≡ Some (ArrivalDue line) → found ≡ Some line
arrival_back (Some other) ticks line is = let same : other ≡ line = cc in ap Some same
arrival_back None true line is = absurd (cc)
arrival_back None false line is = absurd (cc)

tick_back : (found : Option PacketLine) (ticks : Bool) → due_of found ticks ≡ Some TickDue → ticks ≡ true
tick_back (Some other) ticks is = absurd (cc)
tick_back None true is = refl
tick_back None false is = absurd (cc)

-- a step that has packets arrive sends none once more
chosen_resends : (step : Step) (arrived count place : ℕ) → place_chosen step arrived count ≡ Some place → resends step ≡ false
unfolding place_chosen resends
chosen_resends Tick arrived count place is = absurd (cc)
chosen_resends (Repeat at) arrived count place is = absurd (cc)
chosen_resends step arrived count place is = refl

pub contains_at : {X : Type 0} (xs : List X) (place : ℕ) (x : X) → slice_get xs place ≡ Some x → Contains xs x
contains_at xs place x at =
    subst (Contains xs) (get_or_from_slice_get xs place x x at) (Contains-get_or xs place x (slice_get_within xs place x at))

-- the packet that is due is under way, and the last step sends no packets once more
pub arrival_due : (log : List Record) (line : PacketLine) (due : DueBy log (ArrivalDue line))
    → Contains (lines_under_way log) line × (resends due.step ≡ false)
arrival_due log line due =
    let choice = carried_choice log in
    let lines = lines_under_way log in
    let found = arrival_back (arrival_chosen due.step choice.arrived lines) (tick_chosen due.step choice.ticked (is_stranded log)) line due.by in
    option_and_then_some (slice_get lines) (place_chosen due.step choice.arrived (length lines)) line found
    (λ place chosen at. (contains_at lines place line at, chosen_resends due.step choice.arrived (length lines) place chosen))

chosen_tick : (step : Step) (ticked : ℕ) (stranded : Bool) → tick_chosen step ticked stranded ≡ true
    → ((step ≡ Tick) × (ticked ≡ 0)) ⊎ ((resends step ≡ false) × (stranded ≡ true))
unfolding tick_chosen resends
chosen_tick Tick ticked stranded is = inl (refl, eqb-true ticked 0 is)
chosen_tick Settle ticked stranded is = inr (refl, is)
chosen_tick SettleNewest ticked stranded is = inr (refl, is)
chosen_tick (SettleMixed seed) ticked stranded is = inr (refl, is)
chosen_tick step ticked stranded is = absurd (false≢true is)

-- a tick that is due is that of a `tick` step, or of a settle that has frames stranded
pub tick_due : (log : List Record) (due : DueBy log TickDue)
    → ((due.step ≡ Tick) × ((carried_choice log).ticked ≡ 0)) ⊎ ((resends due.step ≡ false) × (is_stranded log ≡ true))
tick_due log due =
    let choice = carried_choice log in
    chosen_tick due.step choice.ticked (is_stranded log)
    (tick_back (arrival_chosen due.step choice.arrived (lines_under_way log)) (tick_chosen due.step choice.ticked (is_stranded log)) due.by)

none_is : (numbers : List ℕ) → is_none numbers ≡ true → numbers ≡ []
none_is [] is = refl
none_is (number ∷ numbers) is = absurd (false≢true is)

some_is : (numbers : List ℕ) → not (is_none numbers) ≡ true → 1 ≤ length numbers
some_is [] is = absurd (false≢true is)
some_is (number ∷ numbers) is = omega arith

both_are : (a b : Bool) → (a && b) ≡ true → (a ≡ true) × (b ≡ true)
both_are true b is = (refl, is)
both_are false b is = absurd (false≢true is)

pub stranded_is : (log : List Record) → is_stranded log ≡ true → (under_way log ≡ []) × (1 ≤ length (awaiting log))
stranded_is log is =
    let both = both_are (is_none (under_way log)) (not (is_none (awaiting log))) is in
    (none_is (under_way log) both.0, some_is (awaiting log) both.1)

-- ---- the last step

-- the step sends packets once more, if there is one
abbrev pub step_resends : Option Step → Bool
step_resends None = false
step_resends (Some step) = resends step

one_resends : (before : Bool) (choice : CarriedChoice) (item : Record) → before ≡ step_resends choice.step
    → resends_after before item ≡ step_resends (choice_after choice item).step
unfolding resends_after choice_after
one_resends before choice (StepRecord index step) is = refl
one_resends before choice (Arrived packet) is = is
one_resends before choice Ticked is = is
one_resends before choice (Refused index refusal) is = is
one_resends before choice item is = is

all_resend : (before : Bool) (choice : CarriedChoice) (log : List Record) → before ≡ step_resends choice.step
    → fold resends_after before log ≡ step_resends (fold choice_after choice log).step
all_resend before choice [] is = is
all_resend before choice (item ∷ log) is =
    all_resend (resends_after before item) (choice_after choice item) log (one_resends before choice item is)

-- the last step is the one that counts for packets sent once more
pub resending_is : (log : List Record) → is_resending log ≡ step_resends (carried_choice log).step
resending_is log = all_resend false no_choice log refl

one_due : (due resending : Bool) (item : Record) → due_after due item ≡ true → resends_after resending item ≡ true
unfolding due_after resends_after resends
one_due due resending (StepRecord index Tick) is = refl
one_due due resending (StepRecord index step) is = absurd (false≢true is)
one_due due resending item is = absurd (false≢true is)

due_resends : (due resending : Bool) (log : List Record) → (due ≡ true → resending ≡ true) → fold due_after due log ≡ true
    → fold resends_after resending log ≡ true
due_resends due resending [] keeps is = keeps is
due_resends due resending (item ∷ log) keeps is =
    due_resends (due_after due item) (resends_after resending item) log (one_due due resending item) is

-- if the last step sends none once more, no tick of a `tick` step is due
pub none_due : (log : List Record) → is_resending log ≡ false → is_due log ≡ false
none_due log none = by_due (is_due log) refl
  where
    by_due : (due : Bool) → is_due log ≡ due → is_due log ≡ false
    by_due true is = absurd (false≢true (sym none ∙ due_resends false false log (λ h. h) is))
    by_due false is = is

-- after a step that sends none once more
pub calm_after : (log : List Record) (step : Step) → (carried_choice log).step ≡ Some step → resends step ≡ false → IsCalm log
calm_after log step is none =
    let last : is_resending log ≡ false = resending_is log ∙ ap step_resends is ∙ none in record { last = last; due = none_due log last }

-- ---- within a group

-- records that begin no group leave the step and the counts
pub record IsSameChoice (one other : CarriedChoice) : Type 0 where
  pub step : one.step ≡ other.step
  pub arrived : one.arrived ≡ other.arrived
  pub ticked : one.ticked ≡ other.ticked

one_same : (choice : CarriedChoice) (item : Record) → begins_group true item ≡ false → IsSameChoice (choice_after choice item) choice
unfolding begins_group choice_after
one_same choice (StepRecord index step) is = absurd (false≢true (sym is))
one_same choice (Arrived packet) is = absurd (false≢true (sym is))
one_same choice Ticked is = absurd (false≢true (sym is))
one_same choice (Refused index refusal) is = record { step = refl; arrived = refl; ticked = refl }
one_same choice item is = record { step = refl; arrived = refl; ticked = refl }

pub items_same : (choice : CarriedChoice) (items : List Record) → All (λ item. begins_group true item ≡ false) items
    → IsSameChoice (fold choice_after choice items) choice
items_same choice [] alone = record { step = refl; arrived = refl; ticked = refl }
items_same choice (item ∷ items) alone =
    let one = one_same choice item (All-head (λ item. begins_group true item ≡ false) item items alone) in
    let rest = items_same (choice_after choice item) items (All-tail (λ item. begins_group true item ≡ false) item items alone) in
    record { step = rest.step ∙ one.step; arrived = rest.arrived ∙ one.arrived; ticked = rest.ticked ∙ one.ticked }
