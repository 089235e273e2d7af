-- What the calls of a world answer, from what its engine does.
use Rattle.std.proofs.Common.{◌≡◌, ◌≢◌, ◌⊎◌, inl, inr, ℕ, Bool, true, false, List, [], ◌∷◌, ◌++◌, slice_get, Option, None, Some, Result, Ok, Err, refl, ap, sym, subst, ◌∙◌, append-nil}
use Rattle.std.specs.Prelude.{if◌then◌else◌}
use Rattle.tap_scenario.specs.declared.step.Step.{Step}
use Rattle.tap_log.specs.declared.record.Record.{Record}
use Rattle.tap_log.specs.declared.record.Record.TheVariants.{Spent, Step as StepRecord}
use Rattle.tap_log.specs.declared.record.Refusal.{Refusal}
use Rattle.tap_history.specs.Core.{members_of}
use Rattle.tap_history.specs.Moments.{outstanding}
use Rattle.tap_history.specs.Refusals.{first_refusal}
use Rattle.tap_engine.specs.KeptEngine.{AreKept, AreReady, LeadsTo, world_value}
use Rattle.tap_engine.specs.Kinds.{damages, observes}
use Rattle.tap_engine.specs.Outcome.{IsNextIndex, MayGoOn, WorldAnswersAs, WorldOutcome, adds, deliver_outcome, is_within, refusal_in, spends, step_outcome, stops, takes_number, unless_refused, unless_stopped, world_stays}
use Rattle.tap_runs.specs.Groups.{step_group}
use Rattle.tap_engine.specs.World.{WorldValue}
use Rattle.tap_engine.specs.declared.engine.Engine.{Engine}
use Rattle.tap_engine.specs.declared.stop.Stop.{Stop}
use Rattle.tap_engine.specs.declared.stop.Stop.TheVariants.{Ended, NoMemory, Refused, Spent as StopSpent}
use Rattle.tap_engine.proofs.Courses.{members_more}
use Rattle.tap_engine.proofs.Keeping.{begun, on, seen}
use Rattle.tap_engine.proofs.AddedGroups.{quiet_within}

-- ---- a world that was stopped

unless_is : (w : WorldValue) (outcome : WorldOutcome) → w.stopped ≡ true → unless_stopped w outcome ≡ world_stays w Ended
unless_is w outcome over = ap (λ s. if s then world_stays w Ended else outcome) over

-- it does nothing
pub stopped_answers : (w : WorldValue) (outcome : WorldOutcome) → w.stopped ≡ true → WorldAnswersAs (unless_stopped w outcome) w (Err Ended) w
stopped_answers w outcome over =
    subst (λ o. WorldAnswersAs o w (Err Ended) w) (sym (unless_is w outcome over)) (record {
      answer = λ other. refl;
      log = λ other. refl;
      refused = λ other. refl;
      stopped = λ other. refl;
      memory = λ none. cc;
      beginning = refl;
      added = refl;
    })

-- ---- an engine that is ready

module _ (engine : Engine) (refused : Option Refusal) (stopped : Bool) where
  -- those of a world that may go on and wasn't stopped
  pub ready_of : AreKept engine refused stopped → MayGoOn (world_value engine refused stopped) → stopped ≡ false → AreReady engine
  ready_of kept may runs = record {
    kept = subst (λ s. AreKept engine None s) runs (subst (λ r. AreKept engine r stopped) may.noted kept);
    unfinished = may.unfinished;
  }

  -- and such an engine is that of the world
  pub kept_of : refused ≡ None → stopped ≡ false → AreKept engine None false → AreKept engine refused stopped
  kept_of none runs kept = rw (none, runs) kept

  pub next_of : (index : ℕ) → IsNextIndex (world_value engine refused stopped) index → IsNextIndex (seen engine) index
  next_of index next = record { above = next.above; most = next.most }

  -- what is answered of such an engine is answered of the world
  pub goes_on : (of : WorldValue → WorldOutcome) (given : Result (Unit {0}) Stop) (after : WorldValue) → stopped ≡ false → refused ≡ None
      → WorldAnswersAs (of (seen engine)) (seen engine) given after
      → WorldAnswersAs (unless_stopped (world_value engine refused stopped) (of (world_value engine refused stopped)))
      (world_value engine refused stopped) given after
  goes_on of given after runs none answers = rw (runs, none) answers

-- ---- what is added

-- the log of the outcome is the world's, and more
pub record Extends (w : WorldValue) (outcome : WorldOutcome) : Type 0 where
  pub more : List Record
  pub is : outcome.log ≡ w.log ++ more

-- and what is seen of it is said by the answer
pub record Says (outcome : WorldOutcome) : Type 0 where
  pub refused : outcome.refused ≡ refusal_in outcome.answer
  pub stopped : outcome.stopped ≡ stops outcome.answer

within_extends : (w : WorldValue) (first group : List Record) (within : Bool)
    → Extends w (if within then adds w group else spends w first)
within_extends w first group true = record { more = group; is = refl }
within_extends w first group false = record { more = first ++ Spent w.beginning.frames ∷ []; is = refl }

within_says : (w : WorldValue) (first group : List Record) → w.refused ≡ None → w.stopped ≡ false → (within : Bool)
    → Says (if within then adds w group else spends w first)
within_says w first group noted runs true = record { refused = noted; stopped = runs }
within_says w first group noted runs false = record { refused = noted; stopped = refl }

step_extends : (w : WorldValue) (index : ℕ) (step : Step) (refusal : Option Refusal) → Extends w (unless_refused w index step refusal)
step_extends w index step None =
    within_extends w (StepRecord index step ∷ []) _ (is_within w.beginning w.log _)
step_extends w index step (Some refusal) = record { more = StepRecord index step ∷ []; is = refl }

step_says : (w : WorldValue) (index : ℕ) (step : Step) (refusal : Option Refusal) → w.refused ≡ None → w.stopped ≡ false
    → Says (unless_refused w index step refusal)
step_says w index step None noted runs =
    within_says w (StepRecord index step ∷ []) _ noted runs (is_within w.beginning w.log _)
step_says w index step (Some refusal) noted runs = record { refused = refl; stopped = runs }

takes_extends : (w : WorldValue) (number : Option ℕ) → Extends w (takes_number w number)
takes_extends w None = record { more = []; is = sym (append-nil w.log) }
takes_extends w (Some number) = within_extends w [] _ (is_within w.beginning w.log _)

-- a delivery leaves no refusal to be noted
pub record Takes (w : WorldValue) (outcome : WorldOutcome) : Type 0 where
  pub refused : outcome.refused ≡ w.refused
  pub stopped : outcome.stopped ≡ stops outcome.answer

within_takes : (w : WorldValue) (first group : List Record) → w.stopped ≡ false → (within : Bool)
    → Takes w (if within then adds w group else spends w first)
within_takes w first group runs true = record { refused = refl; stopped = runs }
within_takes w first group runs false = record { refused = refl; stopped = refl }

takes_says : (w : WorldValue) (number : Option ℕ) → w.stopped ≡ false → Takes w (takes_number w number)
takes_says w None runs = record { refused = refl; stopped = runs }
takes_says w (Some number) runs = within_takes w [] _ runs (is_within w.beginning w.log _)

-- ---- an engine never answers that a world was stopped

within_goes : (w : WorldValue) (first group : List Record) (within : Bool)
    → (if within then adds w group else spends w first).answer ≢ Err Ended
within_goes w first group true = λ ended. cc
within_goes w first group false = λ ended. cc

step_goes : (w : WorldValue) (index : ℕ) (step : Step) (refusal : Option Refusal) → (unless_refused w index step refusal).answer ≢ Err Ended
step_goes w index step None = within_goes w (StepRecord index step ∷ []) _ (is_within w.beginning w.log _)
step_goes w index step (Some refusal) = λ ended. cc

takes_goes : (w : WorldValue) (number : Option ℕ) → (takes_number w number).answer ≢ Err Ended
takes_goes w None = λ ended. cc
takes_goes w (Some number) = within_goes w [] _ (is_within w.beginning w.log _)

module _ (before after : Engine) (given : Result (Unit {0}) Stop) where
  unended : (outcome : WorldOutcome) → outcome.answer ≢ Err Ended → LeadsTo outcome before given after → given ≢ Err Ended
  unended outcome goes leads = λ ended.
      let other : given ≢ Err NoMemory = λ none. let wrong : Err Ended ≡ Err NoMemory = sym ended ∙ none in cc in
      goes (sym (leads.answer other) ∙ ended)

  pub step_unended : (index : ℕ) (step : Step) (refusal : Option Refusal) → LeadsTo (unless_refused (seen before) index step refusal) before given after
      → given ≢ Err Ended
  step_unended index step refusal = unended (unless_refused (seen before) index step refusal) (step_goes (seen before) index step refusal)

  pub takes_unended : (number : Option ℕ) → LeadsTo (takes_number (seen before) number) before given after → given ≢ Err Ended
  takes_unended number = unended (takes_number (seen before) number) (takes_goes (seen before) number)

-- ---- a call of a world that goes on

by_memory : (given : Result (Unit {0}) Stop) → (given ≡ Err NoMemory) ⊎ (given ≢ Err NoMemory)
by_memory (Ok tt) = inr (λ never. cc)
by_memory (Err (Refused refusal)) = inr (λ never. cc)
by_memory (Err StopSpent) = inr (λ never. cc)
by_memory (Err NoMemory) = inl refl
by_memory (Err Ended) = inr (λ never. cc)

-- what is then seen of the refusal and of whether the world was stopped
pub record AreSeen (outcome : WorldOutcome) (given : Result (Unit {0}) Stop) (refused : Option Refusal) (stopped : Bool) : Type 0 where
  pub refused_is : given ≢ Err NoMemory → refused ≡ outcome.refused
  pub stopped_is : given ≢ Err NoMemory → stopped ≡ outcome.stopped
  pub none : given ≡ Err NoMemory → refused ≡ None
  pub over : given ≡ Err NoMemory → stopped ≡ true

module _ (before after : Engine) (ready : AreReady before) (outcome : WorldOutcome) (given : Result (Unit {0}) Stop)
    (leads : LeadsTo outcome before given after) (extends : Extends (seen before) outcome) (refused : Option Refusal) (stopped : Bool)
    (are : AreSeen outcome given refused stopped) where
  members_same : members_of after.ledger.records ≡ members_of before.ledger.records
  members_same = elim (by_memory given) [
    | inl none ↦ ap members_of (leads.same none)
    | inr other ↦
        ap members_of (leads.log other ∙ extends.is) ∙ members_more before.ledger.records extends.more (begun before ready)
  ]

  begins_same : (seen after).beginning ≡ (seen before).beginning
  begins_same =
      ap (λ p. record { settings = p; frames = after.frames; members = members_of after.ledger.records }) leads.settings
      ∙ ap (λ f. record { settings = before.settings; frames = f; members = members_of after.ledger.records }) leads.frames
      ∙ ap (λ m. record { settings = before.settings; frames = before.frames; members = m }) members_same

  pub answers : after.ledger.added ≡ before.ledger.added → WorldAnswersAs outcome (seen before) given (world_value after refused stopped)
  answers added = record {
    answer = leads.answer;
    log = leads.log;
    refused = are.refused_is;
    stopped = are.stopped_is;
    memory = λ none. record { went_on = refl; stopped = are.over none; log = leads.same none; refused = are.none none };
    beginning = begins_same;
    added = added;
  }

  pub keeps : AreKept after refused stopped
  keeps = elim (by_memory given) [
    | inl none ↦ rw (are.none none, are.over none) (leads.short none)
    | inr other ↦ rw (are.refused_is other, are.stopped_is other) (leads.kept other)
  ]

-- ---- each call

module _ (engine : Engine) (refused : Option Refusal) (stopped : Bool) (kept : AreKept engine refused stopped)
    (may : MayGoOn (world_value engine refused stopped)) (runs : stopped ≡ false) (after : Engine) (given : Result (Unit {0}) Stop) where
  -- a start, an observation or a damaged copy
  module _ (index : ℕ) (step : Step)
      (leads : LeadsTo (unless_refused (seen engine) index step (first_refusal engine.ledger.records step)) engine given after) where
    step_seen : AreSeen (unless_refused (seen engine) index step (first_refusal engine.ledger.records step)) given (refusal_in given)
        (stops given)
    step_seen =
        let says = step_says (seen engine) index step (first_refusal engine.ledger.records step) refl refl in
        record {
          refused_is = λ other. ap refusal_in (leads.answer other) ∙ sym says.refused;
          stopped_is = λ other. ap stops (leads.answer other) ∙ sym says.stopped;
          none = λ none. ap refusal_in none;
          over = λ none. ap stops none;
        }

    pub step_answers : after.ledger.added ≡ engine.ledger.added
        → WorldAnswersAs (step_outcome (world_value engine refused stopped) index step) (world_value engine refused stopped) given
        (world_value after (refusal_in given) (stops given))
    step_answers added =
        goes_on engine refused stopped (λ w. unless_refused w index step (first_refusal w.log step)) given
        (world_value after (refusal_in given) (stops given)) runs may.noted
        (answers engine after (ready_of engine refused stopped kept may runs)
        (unless_refused (seen engine) index step (first_refusal engine.ledger.records step)) given leads
        (step_extends (seen engine) index step (first_refusal engine.ledger.records step)) (refusal_in given) (stops given) step_seen added)

    pub step_keeps : AreKept after (refusal_in given) (stops given)
    step_keeps =
        keeps engine after (ready_of engine refused stopped kept may runs)
        (unless_refused (seen engine) index step (first_refusal engine.ledger.records step)) given leads
        (step_extends (seen engine) index step (first_refusal engine.ledger.records step)) (refusal_in given) (stops given) step_seen

  -- a delivery
  module _ (place : ℕ) (leads : LeadsTo (takes_number (seen engine) (slice_get (outstanding engine.ledger.records) place)) engine given after) where
    takes_seen : AreSeen (takes_number (seen engine) (slice_get (outstanding engine.ledger.records) place)) given refused (stops given)
    takes_seen =
        let says = takes_says (seen engine) (slice_get (outstanding engine.ledger.records) place) refl in
        record {
          refused_is = λ other. may.noted ∙ sym says.refused;
          stopped_is = λ other. ap stops (leads.answer other) ∙ sym says.stopped;
          none = λ none. may.noted;
          over = λ none. ap stops none;
        }

    pub deliver_answers : after.ledger.added ≡ engine.ledger.added
        → WorldAnswersAs (deliver_outcome (world_value engine refused stopped) place) (world_value engine refused stopped) given
        (world_value after refused (stops given))
    deliver_answers added =
        goes_on engine refused stopped (λ w. takes_number w (slice_get (outstanding w.log) place)) given
        (world_value after refused (stops given)) runs may.noted
        (answers engine after (ready_of engine refused stopped kept may runs)
        (takes_number (seen engine) (slice_get (outstanding engine.ledger.records) place)) given leads
        (takes_extends (seen engine) (slice_get (outstanding engine.ledger.records) place)) refused (stops given) takes_seen added)

    pub deliver_keeps : AreKept after refused (stops given)
    deliver_keeps =
        keeps engine after (ready_of engine refused stopped kept may runs)
        (takes_number (seen engine) (slice_get (outstanding engine.ledger.records) place)) given leads
        (takes_extends (seen engine) (slice_get (outstanding engine.ledger.records) place)) refused (stops given) takes_seen

-- ---- a step that sends nothing

-- an observation or a damaged copy isn't stopped
module _ (engine : Engine) (ready : AreReady engine) (index : ℕ) (step : Step) (kind : (observes step ≡ true) ⊎ (damages step ≡ true)) where
  quiet_answer : (refusal : Option Refusal) → (unless_refused (seen engine) index step refusal).answer ≢ Err StopSpent
  quiet_answer (Some refusal) = λ spent. cc
  quiet_answer None =
      let goes = on engine ready in
      let w = seen engine in
      let within = quiet_within w.beginning w.log goes.course goes.going index step kind in
      let is : (unless_refused w index step None).answer ≡ Ok tt =
      ap (λ (b : Bool). (if b then adds w (step_group w.beginning.settings w.log index step) else spends w (StepRecord index step ∷ [])).answer) within in
      λ spent. let wrong : ◌≡◌ {A = Result (Unit {0}) Stop} (Ok tt) (Err StopSpent) = sym is ∙ spent in cc

  pub unspent : (given : Result (Unit {0}) Stop) (after : Engine)
      → LeadsTo (unless_refused (seen engine) index step (first_refusal engine.ledger.records step)) engine given after → given ≢ Err StopSpent
  unspent given after leads = λ spent.
      let other : given ≢ Err NoMemory = λ none. let wrong : Err StopSpent ≡ Err NoMemory = sym spent ∙ none in cc in
      quiet_answer (first_refusal engine.ledger.records step) (sym (leads.answer other) ∙ spent)
