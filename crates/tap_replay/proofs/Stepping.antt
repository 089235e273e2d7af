-- What a world answers to a step: its group is added, or the step alone and `Spent`.
use Rattle.std.proofs.Common.{◌≡◌, ◌≢◌, ℕ, ◌<◌, ◌≤◌, Bool, true, false, List, [], ◌∷◌, ◌++◌, length, Option, None, Some, Result, Ok, Err, IsTrue, refl, ap, sym, subst, ◌∙◌, arith, append_assoc}
use Rattle.std.specs.Prelude.{if◌then◌else◌}
use Rattle.std.proofs.lemmas.Bool.{le-leb, lt-leb}
use Rattle.tap_name.specs.Settings.{SettingsValue}
use Rattle.tap_scenario.specs.Step.{IsStep, asks_no_roots}
use Rattle.tap_scenario.specs.declared.step.Step.{Step}
use Rattle.tap_scenario.specs.declared.step.Step.TheVariants.{Deliver, Settle, SettleNewest, SettleMixed, Tick, Lose, Repeat, RootSet}
use Rattle.tap_log.specs.declared.record.Record.{Record}
use Rattle.tap_log.specs.declared.record.Record.TheVariants.{Refused as RefusedRecord, Step as StepRecord}
use Rattle.tap_log.specs.declared.record.Refusal.{Refusal}
use Rattle.tap_log.specs.declared.record.Refusal.TheVariants.{NoSuchFlight}
use Rattle.tap_log.specs.Counts.{sent_count}
use Rattle.tap_log.specs.Kinds.{sent_number, taken_number}
use Rattle.tap_log.specs.Log.{last_of}
use Rattle.tap_log.proofs.MoreRecords.{filter_map-same, last_of-push, sent_count-append}
use Rattle.tap_history.specs.Moments.{numbers_less, outstanding}
use Rattle.tap_history.specs.Refusals.{first_refusal, refused_if}
use Rattle.std.specs.List.{filter_map}
use Rattle.tap_runs.specs.Course.{is_choice, system_of}
use Rattle.tap_runs.specs.Group.{records_unless, step_records}
use Rattle.tap_engine.specs.Kinds.{may_be_refused}
use Rattle.tap_engine.specs.Outcome.{WorldAnswersAs, WorldOutcome, adds, adds_within, mark_outcome, note_outcome, spends, step_outcome, unless_refused, unless_stopped, world_stays}
use Rattle.tap_runs.specs.Groups.{step_group}
use Rattle.tap_engine.specs.World.{WorldValue}
use Rattle.tap_engine.specs.declared.stop.Stop.{Stop}
use Rattle.tap_engine.specs.declared.stop.Stop.TheVariants.{Ended, NoMemory, Refused, Spent}
use Rattle.tap_lawful.proofs.Choices.{deliver_refusal, mixed_accepted, newest_accepted, settle_accepted}
use Rattle.tap_lawful.proofs.Coming.{choice_alone}
use Rattle.tap_replay.specs.StepCalls.{MayRun, run_outcome}

-- ---- a world that wasn't stopped

pub unless_goes : (w : WorldValue) (outcome : WorldOutcome) → w.stopped ≡ false → unless_stopped w outcome ≡ outcome
unless_goes w outcome runs = ap (λ b. if b then world_stays w Ended else outcome) runs

-- ---- answers

-- what a call answers that was stopped, and one that has added its records
abbrev pub failed : Stop → Result (Unit {0}) Stop
failed stop = Err stop

abbrev pub went : Result (Unit {0}) Stop
went = Ok tt

-- they are no other ones
pub went_not_failed : (stop : Stop) → failed stop ≢ went
went_not_failed stop same = cc

pub went_not_short : went ≢ failed NoMemory
went_not_short same = cc

pub refused_not_short : (refusal : Refusal) → failed (Refused refusal) ≢ failed NoMemory
refused_not_short refusal same = cc

pub spent_not_short : failed Spent ≢ failed NoMemory
spent_not_short same = cc

pub ended_not_short : failed Ended ≢ failed NoMemory
ended_not_short same = cc

-- ---- a step alone

module _ (log : List Record) (index : ℕ) (step : Step) where
  step_unsent : sent_number (StepRecord index step) ≡ None
  unfolding sent_number
  step_unsent = refl

  step_untaken : taken_number (StepRecord index step) ≡ None
  unfolding taken_number
  step_untaken = refl

  -- with it as many frames are outstanding
  pub step_outstanding : outstanding (log ++ StepRecord index step ∷ []) ≡ outstanding log
  step_outstanding =
      ap (λ sent. numbers_less sent (filter_map taken_number (log ++ StepRecord index step ∷ [])))
      (filter_map-same sent_number log (StepRecord index step) step_unsent)
      ∙ ap (numbers_less (filter_map sent_number log)) (filter_map-same taken_number log (StepRecord index step) step_untaken)

  -- and as many were sent, also with its refusal
  alone_unsent : sent_count (StepRecord index step ∷ []) ≡ 0
  unfolding sent_number
  alone_unsent = refl

  refused_unsent : (refusal : Refusal) → sent_count (StepRecord index step ∷ RefusedRecord index refusal ∷ []) ≡ 0
  unfolding sent_number
  refused_unsent refusal = refl

-- records that send no frames are added
quiet_adds : (w : WorldValue) (first group : List Record) → sent_count w.log ≤ w.beginning.frames → sent_count group ≡ 0
    → adds_within w first group ≡ adds w group
quiet_adds w first group few none =
    let all = sent_count-append w.log group in
    ap (λ b. if b then adds w group else spends w first)
    (le-leb (sent_count (w.log ++ group)) w.beginning.frames (omega (arith, all, few, none)))

-- ---- the outcome of a step

module _ (w : WorldValue) (may : MayRun w) (index : ℕ) (step : Step) where
  -- of one that is refused
  pub refused_outcome : (refusal : Refusal) → first_refusal w.log step ≡ Some refusal
      → run_outcome w index step ≡ adds w (StepRecord index step ∷ RefusedRecord index refusal ∷ [])
  refused_outcome refusal is =
      let more : List Record = StepRecord index step ∷ [] in
      unless_goes w (adds_within w more (step_group w.beginning.settings w.log index step)) may.runs
      ∙ ap (λ r. adds_within w more (StepRecord index step ∷ records_unless w.beginning.settings w.log (system_of w.log) index step r)) is
      ∙ quiet_adds w more (StepRecord index step ∷ RefusedRecord index refusal ∷ []) may.few (refused_unsent w.log index step refusal)

  -- of one that only chooses, and isn't refused
  pub chosen_outcome : is_choice step ≡ true → first_refusal w.log step ≡ None
      → run_outcome w index step ≡ adds w (StepRecord index step ∷ [])
  chosen_outcome chosen none =
      let more : List Record = StepRecord index step ∷ [] in
      let items : step_records w.beginning.settings w.log (system_of w.log) index step ≡ [] =
      ap (records_unless w.beginning.settings w.log (system_of w.log) index step) none
      ∙ choice_alone w.beginning.settings w.log (system_of w.log) index step chosen in
      unless_goes w (adds_within w more (step_group w.beginning.settings w.log index step)) may.runs
      ∙ ap (λ l. adds_within w more (StepRecord index step ∷ l)) items
      ∙ quiet_adds w more more may.few (alone_unsent w.log index step)

  pub mark_runs : is_choice step ≡ true → first_refusal w.log step ≡ None → mark_outcome w index step ≡ run_outcome w index step
  mark_runs chosen none =
      unless_goes w (adds w (StepRecord index step ∷ [])) may.runs ∙ sym (chosen_outcome chosen none)

-- ---- a step whose refusal is noted

-- the step stands alone, and the world goes on
pub record HasBegunStep (w v : WorldValue) (index : ℕ) (step : Step) : Type 0 where
  pub log : v.log ≡ w.log ++ StepRecord index step ∷ []
  pub runs : v.stopped ≡ false
  pub beginning : v.beginning ≡ w.beginning
  pub added : v.added ≡ w.added

module _ (w v : WorldValue) (index : ℕ) (step : Step) (begun : HasBegunStep w v index step) where
  -- it is the last record, and as many frames are outstanding as before
  pub begun_last : last_of v.log ≡ Some (StepRecord index step)
  begun_last = ap last_of begun.log ∙ last_of-push w.log (StepRecord index step)

  pub marked_count : length (outstanding v.log) ≡ length (outstanding w.log)
  marked_count = ap (λ l. length (outstanding l)) begun.log ∙ ap length (step_outstanding w.log index step)

  pub noted_answers : (u : WorldValue) (refusal : Refusal) (given : Result (Unit {0}) Stop) → MayRun w
      → first_refusal w.log step ≡ Some refusal → given ≢ Err NoMemory → WorldAnswersAs (note_outcome v index refusal) v given u
      → WorldAnswersAs (run_outcome w index step) w given u
  noted_answers u refusal given may is other answers =
      let note : WorldOutcome = record (adds v (RefusedRecord index refusal ∷ [])) { refused = None } in
      let goes : note_outcome v index refusal ≡ note = unless_goes v note begun.runs in
      let all : v.log ++ RefusedRecord index refusal ∷ [] ≡ w.log ++ StepRecord index step ∷ RefusedRecord index refusal ∷ [] =
      ap (λ l. l ++ RefusedRecord index refusal ∷ []) begun.log
      ∙ append_assoc w.log (StepRecord index step ∷ []) (RefusedRecord index refusal ∷ []) in
      subst (λ o. WorldAnswersAs o w given u) (sym (refused_outcome w may index step refusal is)) (record {
        answer = λ _. answers.answer other ∙ ap (λ o. o.answer) goes;
        log = λ _. answers.log other ∙ ap (λ o. o.log) goes ∙ all;
        refused = λ _. answers.refused other ∙ ap (λ o. o.refused) goes ∙ sym may.goes_on.noted;
        stopped = λ _. answers.stopped other ∙ ap (λ o. o.stopped) goes ∙ begun.runs ∙ sym may.runs;
        memory = λ none. absurd (other none);
        beginning = answers.beginning ∙ begun.beginning;
        added = answers.added ∙ begun.added;
      })

-- ---- a step that a world has refused

-- it stands alone, its refusal is the first one, and may be noted
pub record HasRefused (w v : WorldValue) (index : ℕ) (step : Step) (refusal : Refusal) : Type 0 where
  pub first : first_refusal w.log step ≡ Some refusal
  pub begun : HasBegunStep w v index step
  pub noted : v.refused ≡ Some refusal

module _ (w v : WorldValue) (index : ℕ) (step : Step) (refusal : Refusal) (runs : w.stopped ≡ false)
    (answers : WorldAnswersAs (step_outcome w index step) w (Err (Refused refusal)) v) where
  by_within : (within : Bool) (group : List Record)
      → failed (Refused refusal) ≡ (if within then adds w group else spends w (StepRecord index step ∷ [])).answer → ⊥
  by_within true group is = cc
  by_within false group is = cc

  by_refusal : (first : Option Refusal) → first_refusal w.log step ≡ first
      → WorldAnswersAs (unless_refused w index step first) w (Err (Refused refusal)) v → HasRefused w v index step refusal
  by_refusal None is so =
      absurd (by_within _ (step_group w.beginning.settings w.log index step) (so.answer (refused_not_short refusal)))
  by_refusal (Some why) is so =
      let same : refusal ≡ why = let e : failed (Refused refusal) ≡ failed (Refused why) = so.answer (refused_not_short refusal) in cc in
      record {
        first = is ∙ ap Some (sym same);
        begun = record { log = so.log (refused_not_short refusal); runs = so.stopped (refused_not_short refusal) ∙ runs; beginning = so.beginning; added = so.added };
        noted = so.refused (refused_not_short refusal) ∙ ap Some (sym same);
      }

  pub has_refused : HasRefused w v index step refusal
  has_refused =
      by_refusal (first_refusal w.log step) refl
      (subst (λ o. WorldAnswersAs o w (Err (Refused refusal)) v) (unless_goes w (unless_refused w index step (first_refusal w.log step)) runs) answers)

-- ---- a settle is never refused

pub settle_goes : (p : SettingsValue) (log : List Record) (step : Step) → IsTrue (asks_no_roots step) → IsStep p false step
    → ((place : ℕ) → step ≢ Deliver place) → is_choice step ≡ true → first_refusal log step ≡ None
unfolding is_choice asks_no_roots
settle_goes p log (Deliver place) played is other chosen = absurd (other place refl)
settle_goes p log Settle played is other chosen = settle_accepted log
settle_goes p log SettleNewest played is other chosen = newest_accepted log
settle_goes p log (SettleMixed seed) played is other chosen = mixed_accepted log seed
settle_goes p log Tick played is other chosen = absurd (cc)
settle_goes p log (Lose place) played is other chosen = absurd (let carried : false ≡ true = is.0 in cc)
settle_goes p log (Repeat place) played is other chosen = absurd (let carried : false ≡ true = is.0 in cc)
settle_goes p log (RootSet object asker) played is other chosen = absurd (cc)
settle_goes p log step played is other chosen = absurd (cc)

-- ---- a delivery whose place is given

module _ (w : WorldValue) (index place : ℕ) (may : MayRun w) where
  -- it is refused if no frame is at the place
  pub place_there : place < length (outstanding w.log) → first_refusal w.log (Deliver place) ≡ None
  place_there there =
      let count = length (outstanding w.log) in
      deliver_refusal w.log place may.uncarried ∙ ap (λ b. refused_if b (NoSuchFlight count)) (lt-leb count place there)

  pub place_missing : length (outstanding w.log) ≤ place
      → first_refusal w.log (Deliver place) ≡ Some (NoSuchFlight (length (outstanding w.log)))
  place_missing past =
      let count = length (outstanding w.log) in
      deliver_refusal w.log place may.uncarried ∙ ap (λ b. refused_if b (NoSuchFlight count)) (le-leb count place past)

pub deliver_chooses : (place : ℕ) → is_choice (Deliver place) ≡ true
unfolding is_choice
deliver_chooses place = refl

pub deliver_refusable : (place : ℕ) → may_be_refused (Deliver place) ≡ true
unfolding may_be_refused
deliver_refusable place = refl

-- a choice that is marked has begun
pub has_marked : (w v : WorldValue) (index : ℕ) (step : Step) → w.stopped ≡ false → WorldAnswersAs (mark_outcome w index step) w (Ok tt) v
    → HasBegunStep w v index step
has_marked w v index step runs answers =
    let goes = unless_goes w (adds w (StepRecord index step ∷ [])) runs in
    record {
      log = answers.log went_not_short ∙ ap (λ o. o.log) goes;
      runs = answers.stopped went_not_short ∙ ap (λ o. o.stopped) goes ∙ runs;
      beginning = answers.beginning;
      added = answers.added;
    }
