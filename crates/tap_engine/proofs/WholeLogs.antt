-- What the calls of a world make of its whole log, by what they answer.
-- Cited above: finish_added, mark_added, note_added, RecordsAreAdded, step_added, step_refused, step_spent, StepIsAdded, StepIsRefused, StepIsSpent,
-- take_added, take_spent, take_unrefused, TakeIsAdded, whole_grows, whole_short
use Rattle.std.proofs.Common.{◌≡◌, ◌≢◌, ℕ, Bool, true, false, List, [], ◌∷◌, ◌++◌, slice_get, Option, None, Some, Result, Ok, Err, refl, ap, sym, ◌∙◌}
use Rattle.std.specs.Prelude.{if◌then◌else◌}
use Rattle.tap_scenario.specs.declared.step.Step.{Step}
use Rattle.tap_log.specs.declared.record.Record.{Record}
use Rattle.tap_log.specs.declared.record.Record.TheVariants.{Step as StepRecord, Refused as RefusedRecord, Spent as SpentRecord, Finished}
use Rattle.tap_log.specs.declared.record.Refusal.{Refusal}
use Rattle.tap_history.specs.Moments.{outstanding}
use Rattle.tap_history.specs.Refusals.{first_refusal}
use Rattle.tap_runs.specs.Groups.{step_group, taken_group}
use Rattle.tap_ledger.specs.Woven.{RemarksWithin, woven}
use Rattle.tap_ledger.proofs.Woven.{woven_grows, woven_remark}
use Rattle.tap_engine.specs.Outcome.{Remarks, WorldAnswersAs, WorldOutcome, adds, adds_within, deliver_outcome, finish_outcome, is_within, mark_outcome, note_outcome, refuses_step, spends, step_outcome, takes_number, unless_refused, unless_stopped, world_stays}
use Rattle.tap_engine.specs.World.{WorldValue, whole_log}
use Rattle.tap_engine.specs.declared.stop.Stop.{Stop}
use Rattle.tap_engine.specs.declared.stop.Stop.TheVariants.{Ended, NoMemory, Refused, Spent}

-- ---- what is added comes last

-- what the plain log grew by comes last in the whole log
pub whole_grows : (w v : WorldValue) (items : List Record) → RemarksWithin w.log w.added → v.log ≡ w.log ++ items → v.added ≡ w.added
    → whole_log v ≡ whole_log w ++ items
whole_grows w v items within log added =
    ap (λ l. woven l v.added) log ∙ ap (woven (w.log ++ items)) added ∙ woven_grows w.log items w.added within

-- if the plain log stays, the whole log does
pub whole_stays : (w v : WorldValue) → v.log ≡ w.log → v.added ≡ w.added → whole_log v ≡ whole_log w
whole_stays w v log added = ap (λ l. woven l v.added) log ∙ ap (woven w.log) added

module _ (outcome : WorldOutcome) (w v : WorldValue) (given : Result (Unit {0}) Stop) (answers : WorldAnswersAs outcome w given v) where
  -- what the outcome adds comes last in the whole log, unless memory was refused
  pub whole_added : (items : List Record) → RemarksWithin w.log w.added → given ≢ Err NoMemory → outcome.log ≡ w.log ++ items
      → whole_log v ≡ whole_log w ++ items
  whole_added items within enough adds_items = whole_grows w v items within (answers.log enough ∙ adds_items) answers.added

  -- and if it was, the whole log stays
  pub whole_short : given ≡ Err NoMemory → whole_log v ≡ whole_log w
  whole_short none = whole_stays w v (answers.memory none).log answers.added

-- ---- by what an outcome answers

-- a world whose outcome isn't that it had been stopped goes on
running : (w : WorldValue) (outcome : WorldOutcome) → (unless_stopped w outcome).answer ≢ Err Ended → w.stopped ≡ false
running w outcome goes = by w.stopped goes
  where
    by : (stopped : Bool) → (if stopped then world_stays w Ended else outcome).answer ≢ Err Ended → stopped ≡ false
    by true goes = absurd (goes refl)
    by false goes = refl

-- and does what the outcome says
unstopped : (w : WorldValue) (outcome : WorldOutcome) → w.stopped ≡ false → unless_stopped w outcome ≡ outcome
unstopped w outcome runs = ap (λ s. if s then world_stays w Ended else outcome) runs

-- a group is added if no more frames are sent with it than may be
few_added : (w : WorldValue) (first group : List Record) (few : Bool) → (if few then adds w group else spends w first).answer ≡ Ok tt → few ≡ true
few_added w first group true is = refl
few_added w first group false is = absurd (cc)

-- `Spent` comes if more would be
many_spent : (w : WorldValue) (first group : List Record) (few : Bool) → (if few then adds w group else spends w first).answer ≡ Err Spent
    → few ≡ false
many_spent w first group true is = absurd (cc)
many_spent w first group false is = refl

-- and it is never refused
group_unrefused : (w : WorldValue) (first group : List Record) (few : Bool) (refusal : Refusal)
    → (if few then adds w group else spends w first).answer ≢ Err (Refused refusal)
group_unrefused w first group true refusal = λ is. cc
group_unrefused w first group false refusal = λ is. cc

-- ---- a start, an observation or a damaged copy

-- The step was accepted, and its group comes last. With it no more frames are sent than may be.
pub record StepIsAdded (w : WorldValue) (index : ℕ) (step : Step) (v : WorldValue) : Type 0 where
  pub runs : w.stopped ≡ false
  pub accepted : first_refusal w.log step ≡ None
  pub few : is_within w.beginning w.log (step_group w.beginning.settings w.log index step) ≡ true
  pub whole : whole_log v ≡ whole_log w ++ step_group w.beginning.settings w.log index step
  pub goes_on : v.stopped ≡ false
  pub refused : v.refused ≡ w.refused

-- the step was refused for this cause: it comes last alone, and its refusal isn't noted yet
pub record StepIsRefused (w : WorldValue) (index : ℕ) (step : Step) (refusal : Refusal) (v : WorldValue) : Type 0 where
  pub runs : w.stopped ≡ false
  pub refused_for : first_refusal w.log step ≡ Some refusal
  pub whole : whole_log v ≡ whole_log w ++ StepRecord index step ∷ []
  pub goes_on : v.stopped ≡ false
  pub refused : v.refused ≡ Some refusal

-- The step was accepted, and with its group more frames would be sent than may be: it comes last, and then that the frames are spent.
pub record StepIsSpent (w : WorldValue) (index : ℕ) (step : Step) (v : WorldValue) : Type 0 where
  pub runs : w.stopped ≡ false
  pub accepted : first_refusal w.log step ≡ None
  pub many : is_within w.beginning w.log (step_group w.beginning.settings w.log index step) ≡ false
  pub whole : whole_log v ≡ whole_log w ++ StepRecord index step ∷ SpentRecord w.beginning.frames ∷ []
  pub stopped : v.stopped ≡ true
  pub refused : v.refused ≡ w.refused

module _ (w : WorldValue) (index : ℕ) (step : Step) where
  abbrev step_first : List Record
  step_first = StepRecord index step ∷ []

  abbrev step_all : List Record
  step_all = step_group w.beginning.settings w.log index step

  is_accepted : (refusal : Option Refusal) → (unless_refused w index step refusal).answer ≡ Ok tt → refusal ≡ None
  is_accepted None is = refl
  is_accepted (Some refusal) is = absurd (cc)

  is_spent : (refusal : Option Refusal) → (unless_refused w index step refusal).answer ≡ Err Spent → refusal ≡ None
  is_spent None is = refl
  is_spent (Some refusal) is = absurd (cc)

  is_refused : (found : Option Refusal) (refusal : Refusal) → (unless_refused w index step found).answer ≡ Err (Refused refusal) → found ≡ Some refusal
  is_refused None refusal is =
      absurd (group_unrefused w step_first step_all (is_within w.beginning w.log step_all) refusal is)
  is_refused (Some other) refusal is = cc

  module _ (v : WorldValue) (within : RemarksWithin w.log w.added) where
    step_goes : (given : Result (Unit {0}) Stop) → WorldAnswersAs (step_outcome w index step) w given v → given ≢ Err NoMemory → given ≢ Err Ended
        → w.stopped ≡ false
    step_goes given answers enough goes =
        running w (unless_refused w index step (first_refusal w.log step)) (λ ended. goes (answers.answer enough ∙ ended))

    outcome_is : (refusal : Option Refusal) → w.stopped ≡ false → first_refusal w.log step ≡ refusal
        → step_outcome w index step ≡ unless_refused w index step refusal
    outcome_is refusal runs found =
        unstopped w (unless_refused w index step (first_refusal w.log step)) runs ∙ ap (unless_refused w index step) found

    -- its group was added
    pub step_added : WorldAnswersAs (step_outcome w index step) w (Ok tt) v → StepIsAdded w index step v
    step_added answers =
        let enough : ◌≢◌ {A = Result (Unit {0}) Stop} (Ok tt) (Err NoMemory) = λ never. cc in
        let runs = step_goes (Ok tt) answers enough (λ never. cc) in
        let accepted = is_accepted (first_refusal w.log step)
        (sym (ap (λ (o : WorldOutcome). o.answer) (outcome_is (first_refusal w.log step) runs refl)) ∙ sym (answers.answer enough)) in
        let group_is : step_outcome w index step ≡ adds_within w step_first step_all = outcome_is None runs accepted in
        let few = few_added w step_first step_all (is_within w.beginning w.log step_all)
        (sym (ap (λ (o : WorldOutcome). o.answer) group_is) ∙ sym (answers.answer enough)) in
        let is : step_outcome w index step ≡ adds w step_all =
        group_is ∙ ap (λ (b : Bool). if b then adds w step_all else spends w step_first) few in
        record {
          runs = runs;
          accepted = accepted;
          few = few;
          whole = whole_added (step_outcome w index step) w v (Ok tt) answers step_all within enough (ap (λ (o : WorldOutcome). o.log) is);
          goes_on = answers.stopped enough ∙ ap (λ (o : WorldOutcome). o.stopped) is ∙ runs;
          refused = answers.refused enough ∙ ap (λ (o : WorldOutcome). o.refused) is;
        }

    -- it was refused
    pub step_refused : (refusal : Refusal) → WorldAnswersAs (step_outcome w index step) w (Err (Refused refusal)) v
        → StepIsRefused w index step refusal v
    step_refused refusal answers =
        let enough : ◌≢◌ {A = Result (Unit {0}) Stop} (Err (Refused refusal)) (Err NoMemory) = λ never. cc in
        let runs = step_goes (Err (Refused refusal)) answers enough (λ never. cc) in
        let found = is_refused (first_refusal w.log step) refusal
        (sym (ap (λ (o : WorldOutcome). o.answer) (outcome_is (first_refusal w.log step) runs refl)) ∙ sym (answers.answer enough)) in
        let is : step_outcome w index step ≡ refuses_step w index step refusal = outcome_is (Some refusal) runs found in
        record {
          runs = runs;
          refused_for = found;
          whole = whole_added (step_outcome w index step) w v (Err (Refused refusal)) answers step_first within enough
              (ap (λ (o : WorldOutcome). o.log) is);
          goes_on = answers.stopped enough ∙ ap (λ (o : WorldOutcome). o.stopped) is ∙ runs;
          refused = answers.refused enough ∙ ap (λ (o : WorldOutcome). o.refused) is;
        }

    -- with its group more frames would be sent than may be
    pub step_spent : WorldAnswersAs (step_outcome w index step) w (Err Spent) v → StepIsSpent w index step v
    step_spent answers =
        let enough : ◌≢◌ {A = Result (Unit {0}) Stop} (Err Spent) (Err NoMemory) = λ never. cc in
        let runs = step_goes (Err Spent) answers enough (λ never. cc) in
        let accepted = is_spent (first_refusal w.log step)
        (sym (ap (λ (o : WorldOutcome). o.answer) (outcome_is (first_refusal w.log step) runs refl)) ∙ sym (answers.answer enough)) in
        let group_is : step_outcome w index step ≡ adds_within w step_first step_all = outcome_is None runs accepted in
        let many = many_spent w step_first step_all (is_within w.beginning w.log step_all)
        (sym (ap (λ (o : WorldOutcome). o.answer) group_is) ∙ sym (answers.answer enough)) in
        let is : step_outcome w index step ≡ spends w step_first =
        group_is ∙ ap (λ (b : Bool). if b then adds w step_all else spends w step_first) many in
        record {
          runs = runs;
          accepted = accepted;
          many = many;
          whole = whole_added (step_outcome w index step) w v (Err Spent) answers (StepRecord index step ∷ SpentRecord w.beginning.frames ∷ [])
              within enough (ap (λ (o : WorldOutcome). o.log) is);
          stopped = answers.stopped enough ∙ ap (λ (o : WorldOutcome). o.stopped) is;
          refused = answers.refused enough ∙ ap (λ (o : WorldOutcome). o.refused) is;
        }

-- ---- a frame that is taken

-- Its group comes last. With it no more frames are sent than may be.
pub record TakeIsAdded (w : WorldValue) (number : ℕ) (v : WorldValue) : Type 0 where
  pub runs : w.stopped ≡ false
  pub few : is_within w.beginning w.log (taken_group w.beginning.settings w.log number) ≡ true
  pub whole : whole_log v ≡ whole_log w ++ taken_group w.beginning.settings w.log number
  pub goes_on : v.stopped ≡ false
  pub refused : v.refused ≡ w.refused

-- with its group more frames would be sent than may be: that they are spent comes last
pub record TakeIsSpent (w : WorldValue) (number : ℕ) (v : WorldValue) : Type 0 where
  pub runs : w.stopped ≡ false
  pub many : is_within w.beginning w.log (taken_group w.beginning.settings w.log number) ≡ false
  pub whole : whole_log v ≡ whole_log w ++ SpentRecord w.beginning.frames ∷ []
  pub stopped : v.stopped ≡ true
  pub refused : v.refused ≡ w.refused

module _ (w : WorldValue) (place number : ℕ) (there : slice_get (outstanding w.log) place ≡ Some number) (v : WorldValue) where
  abbrev take_all : List Record
  take_all = taken_group w.beginning.settings w.log number

  take_goes : (given : Result (Unit {0}) Stop) → WorldAnswersAs (deliver_outcome w place) w given v → given ≢ Err NoMemory → given ≢ Err Ended
      → w.stopped ≡ false
  take_goes given answers enough goes =
      running w (takes_number w (slice_get (outstanding w.log) place)) (λ ended. goes (answers.answer enough ∙ ended))

  take_is : w.stopped ≡ false → deliver_outcome w place ≡ adds_within w [] take_all
  take_is runs = unstopped w (takes_number w (slice_get (outstanding w.log) place)) runs ∙ ap (takes_number w) there

  -- its group was added
  pub take_added : RemarksWithin w.log w.added → WorldAnswersAs (deliver_outcome w place) w (Ok tt) v → TakeIsAdded w number v
  take_added within answers =
      let enough : ◌≢◌ {A = Result (Unit {0}) Stop} (Ok tt) (Err NoMemory) = λ never. cc in
      let runs = take_goes (Ok tt) answers enough (λ never. cc) in
      let few = few_added w [] take_all (is_within w.beginning w.log take_all)
      (sym (ap (λ (o : WorldOutcome). o.answer) (take_is runs)) ∙ sym (answers.answer enough)) in
      let is : deliver_outcome w place ≡ adds w take_all =
      take_is runs ∙ ap (λ (b : Bool). if b then adds w take_all else spends w []) few in
      record {
        runs = runs;
        few = few;
        whole = whole_added (deliver_outcome w place) w v (Ok tt) answers take_all within enough (ap (λ (o : WorldOutcome). o.log) is);
        goes_on = answers.stopped enough ∙ ap (λ (o : WorldOutcome). o.stopped) is ∙ runs;
        refused = answers.refused enough ∙ ap (λ (o : WorldOutcome). o.refused) is;
      }

  -- with its group more frames would be sent than may be
  pub take_spent : RemarksWithin w.log w.added → WorldAnswersAs (deliver_outcome w place) w (Err Spent) v → TakeIsSpent w number v
  take_spent within answers =
      let enough : ◌≢◌ {A = Result (Unit {0}) Stop} (Err Spent) (Err NoMemory) = λ never. cc in
      let runs = take_goes (Err Spent) answers enough (λ never. cc) in
      let many = many_spent w [] take_all (is_within w.beginning w.log take_all)
      (sym (ap (λ (o : WorldOutcome). o.answer) (take_is runs)) ∙ sym (answers.answer enough)) in
      let is : deliver_outcome w place ≡ spends w [] =
      take_is runs ∙ ap (λ (b : Bool). if b then adds w take_all else spends w []) many in
      record {
        runs = runs;
        many = many;
        whole = whole_added (deliver_outcome w place) w v (Err Spent) answers (SpentRecord w.beginning.frames ∷ []) within enough
            (ap (λ (o : WorldOutcome). o.log) is);
        stopped = answers.stopped enough ∙ ap (λ (o : WorldOutcome). o.stopped) is;
        refused = answers.refused enough ∙ ap (λ (o : WorldOutcome). o.refused) is;
      }

  -- it is never refused
  pub take_unrefused : (refusal : Refusal) → WorldAnswersAs (deliver_outcome w place) w (Err (Refused refusal)) v → ⊥
  take_unrefused refusal answers =
      let enough : ◌≢◌ {A = Result (Unit {0}) Stop} (Err (Refused refusal)) (Err NoMemory) = λ never. cc in
      let runs = take_goes (Err (Refused refusal)) answers enough (λ never. cc) in
      group_unrefused w [] take_all (is_within w.beginning w.log take_all) refusal
      (sym (ap (λ (o : WorldOutcome). o.answer) (take_is runs)) ∙ sym (answers.answer enough))

-- ---- a record alone

-- These records come last, and the world goes on. This refusal is left to be noted, if one is.
pub record RecordsAreAdded (w : WorldValue) (items : List Record) (refused : Option Refusal) (v : WorldValue) : Type 0 where
  pub runs : w.stopped ≡ false
  pub whole : whole_log v ≡ whole_log w ++ items
  pub goes_on : v.stopped ≡ false
  pub left : v.refused ≡ refused

-- so it is after a call that adds them, whatever refusal is left then
alone_added : (w v : WorldValue) (items : List Record) (refused : Option Refusal) → RemarksWithin w.log w.added
    → WorldAnswersAs (unless_stopped w (record (adds w items) { refused = refused })) w (Ok tt) v → RecordsAreAdded w items refused v
alone_added w v items refused within answers =
    let outcome : WorldOutcome = record (adds w items) { refused = refused } in
    let enough : ◌≢◌ {A = Result (Unit {0}) Stop} (Ok tt) (Err NoMemory) = λ never. cc in
    let goes : ◌≢◌ {A = Result (Unit {0}) Stop} (Ok tt) (Err Ended) = λ never. cc in
    let runs = running w outcome (λ ended. goes (answers.answer enough ∙ ended)) in
    let is = unstopped w outcome runs in
    record {
      runs = runs;
      whole = whole_added (unless_stopped w outcome) w v (Ok tt) answers items within enough (ap (λ (o : WorldOutcome). o.log) is);
      goes_on = answers.stopped enough ∙ ap (λ (o : WorldOutcome). o.stopped) is ∙ runs;
      left = answers.refused enough ∙ ap (λ (o : WorldOutcome). o.refused) is;
    }

module _ (w v : WorldValue) (within : RemarksWithin w.log w.added) where
  -- a choice comes last
  pub mark_added : (index : ℕ) (step : Step) → WorldAnswersAs (mark_outcome w index step) w (Ok tt) v
      → RecordsAreAdded w (StepRecord index step ∷ []) w.refused v
  mark_added index step = alone_added w v (StepRecord index step ∷ []) w.refused within

  -- a refusal that is noted comes last, and none is left
  pub note_added : (index : ℕ) (refusal : Refusal) → WorldAnswersAs (note_outcome w index refusal) w (Ok tt) v
      → RecordsAreAdded w (RefusedRecord index refusal ∷ []) None v
  note_added index refusal = alone_added w v (RefusedRecord index refusal ∷ []) None within

  -- that all steps were run comes last
  pub finish_added : (steps : ℕ) → WorldAnswersAs (finish_outcome w steps) w (Ok tt) v → RecordsAreAdded w (Finished steps ∷ []) w.refused v
  finish_added steps = alone_added w v (Finished steps ∷ []) w.refused within

-- ---- remarks

module _ (item : Record) (w v : WorldValue) where
  -- a remark that was added comes last
  pub remark_added : Remarks item w (Ok tt) v → whole_log v ≡ whole_log w ++ item ∷ []
  remark_added remarks = ap whole_log (remarks.added refl) ∙ woven_remark w.log w.added item

  -- if memory was refused, the whole log stays
  pub remark_short : Remarks item w (Err NoMemory) v → whole_log v ≡ whole_log w
  remark_short remarks = ap whole_log (remarks.stopped refl)
