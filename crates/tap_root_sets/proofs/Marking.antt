-- What the calls of a world that goes on leave when it is asked for roots: the step, and then a refusal or roots.
use Rattle.std.proofs.Common.{◌≡◌, ◌≢◌, inr, ℕ, ◌+◌, ◌≤◌, Bool, true, false, not, List, [], ◌∷◌, ◌++◌, length, All, None, Some, Result, Ok, Err, refl, ap, sym, subst, ◌∙◌, arith, length-append}
use Rattle.std.specs.Prelude.{◌&&◌, if◌then◌else◌, nat_eq}
use Rattle.std.specs.List.{list_any}
use Rattle.std.specs.Option.{option_map_or}
use Rattle.std.proofs.lemmas.Bool.{ne_eqb}
use Rattle.std.proofs.lemmas.List.Elements.{All-weaker}
use Rattle.std.proofs.lemmas.List.Folds.{list_any_none}
use Rattle.tap_scenario.specs.declared.step.Step.{Step}
use Rattle.tap_scenario.specs.declared.step.Step.TheVariants.{RootSet}
use Rattle.tap_log.specs.declared.record.Record.{Record}
use Rattle.tap_log.specs.declared.record.Record.TheVariants.{RootsOf, Step as StepRecord}
use Rattle.tap_log.specs.declared.record.Refusal.{Refusal}
use Rattle.tap_log.specs.Log.{last_of}
use Rattle.tap_log.specs.Reduced.{is_added}
use Rattle.tap_log.proofs.MoreRecords.{last_of-push}
use Rattle.tap_ledger.specs.Woven.{Remark, RemarksWithin}
use Rattle.tap_runs.specs.Course.{is_choice}
use Rattle.tap_engine.specs.Kinds.{asks_roots, awaits_roots, begins_roots, finishes_run, may_be_refused, tells_roots}
use Rattle.tap_engine.specs.Outcome.{MayGoOn, MayNote, Remarks, WorldAnswersAs, WorldOutcome, mark_outcome, remark_answer, unless_stopped, world_stays}
use Rattle.tap_engine.specs.World.{WorldValue, whole_log}
use Rattle.tap_engine.specs.declared.stop.Stop.{Stop}
use Rattle.tap_engine.specs.declared.stop.Stop.TheVariants.{Ended, NoMemory}
use Rattle.tap_engine.proofs.WholeLogs.{mark_added}

-- ---- the step and the record

module _ (object asker : List ℕ) where
  pub chooses : is_choice (RootSet object asker) ≡ true
  unfolding is_choice
  chooses = refl

  refusable : may_be_refused (RootSet object asker) ≡ true
  unfolding may_be_refused
  refusable = refl

  asks : (index : ℕ) → begins_roots (StepRecord index (RootSet object asker)) ≡ true
  unfolding begins_roots asks_roots
  asks index = refl

  goes : (index : ℕ) → finishes_run (StepRecord index (RootSet object asker)) ≡ false
  unfolding finishes_run
  goes index = refl

  pub roots_added : (found : List (List ℕ)) → is_added (RootsOf object asker found) ≡ true
  unfolding is_added
  roots_added found = refl

  pub roots_told : (found : List (List ℕ)) → tells_roots (RootsOf object asker found) ≡ true
  unfolding tells_roots
  roots_told found = refl

-- ---- answers

-- what a world answers that wasn't stopped, unless memory is refused
pub answer_is : (outcome : WorldOutcome) (w v : WorldValue) (given : Result (Unit {0}) Stop) → w.stopped ≡ false
    → WorldAnswersAs (unless_stopped w outcome) w given v → given ≢ Err NoMemory → given ≡ outcome.answer
answer_is outcome w v given runs answers enough =
    answers.answer enough ∙ ap (λ (s : Bool). (if s then world_stays w Ended else outcome).answer) runs

-- and what its log is then
pub log_is : (outcome : WorldOutcome) (w v : WorldValue) → w.stopped ≡ false → WorldAnswersAs (unless_stopped w outcome) w (Ok tt) v
    → v.log ≡ outcome.log
log_is outcome w v runs answers =
    let enough : ◌≢◌ {A = Result (Unit {0}) Stop} (Ok tt) (Err NoMemory) = λ never. cc in
    answers.log enough ∙ ap (λ (s : Bool). (if s then world_stays w Ended else outcome).log) runs

-- a remark of a world that wasn't stopped is added, unless memory is refused
pub remark_goes : (item : Record) (v u : WorldValue) (given : Result (Unit {0}) Stop) → v.stopped ≡ false → Remarks item v given u
    → given ≢ Err NoMemory → given ≡ Ok tt
remark_goes item v u given runs remarks enough = remarks.answer enough ∙ ap remark_answer runs

-- ---- the step alone

-- the step was added, and nothing else
pub record IsMarked (w v : WorldValue) (index : ℕ) (step : Step) : Type 0 where
  pub log : v.log ≡ w.log ++ StepRecord index step ∷ []
  pub added : v.added ≡ w.added
  pub whole : whole_log v ≡ whole_log w ++ StepRecord index step ∷ []
  pub beginning : v.beginning ≡ w.beginning
  pub noted : v.refused ≡ None
  pub runs : v.stopped ≡ false

pub marked : (w v : WorldValue) (index : ℕ) (step : Step) → MayGoOn w → w.stopped ≡ false → RemarksWithin w.log w.added
    → WorldAnswersAs (mark_outcome w index step) w (Ok tt) v → IsMarked w v index step
marked w v index step on runs within answers =
    let more = mark_added w v within index step answers in
    record {
      log = log_is _ w v runs answers;
      added = answers.added;
      whole = more.whole;
      beginning = answers.beginning;
      noted = more.left ∙ on.noted;
      runs = more.goes_on;
    }

module _ (w v : WorldValue) (index : ℕ) (object asker : List ℕ) (is : IsMarked w v index (RootSet object asker)) where
  abbrev step : Step
  step = RootSet object asker

  last_is : last_of v.log ≡ Some (StepRecord index step)
  last_is = ap last_of is.log ∙ last_of-push w.log (StepRecord index step)

  -- its refusal may be noted
  pub may_note : (refusal : Refusal) → MayNote v index refusal
  may_note refusal = record { step = step; last = last_is; may = inr (refusable object asker) }

  -- the world goes on
  pub may_go_on : MayGoOn v
  may_go_on = record {
    noted = is.noted;
    unfinished = ap (λ o. option_map_or finishes_run o false) last_is ∙ goes object asker index;
  }

  size_is : length v.log ≡ length w.log + 1
  size_is = ap length is.log ∙ length-append w.log (StepRecord index step ∷ [])

  -- the remarks stand within one more record too
  pub within_more : RemarksWithin w.log w.added → RemarksWithin v.log v.added
  within_more within =
      let size = size_is in
      subst (λ a. RemarksWithin v.log a) (sym is.added) (λ k d few. let one = within k d few in omega (arith, one, size))

  -- none stands after it
  none_after : RemarksWithin w.log w.added → list_any (λ (r : Remark). nat_eq r.plain_before (length v.log)) v.added ≡ false
  none_after within =
      let size = size_is in
      let stands : Remark → Bool = λ r. nat_eq r.plain_before (length v.log) in
      let before : Remark → Type 0 = λ r. r.plain_before ≤ length w.log in
      let apart : Remark → Type 0 = λ r. stands r ≡ false in
      list_any_none stands v.added
      (subst (λ a. All apart a) (sym is.added)
      (All-weaker before apart (λ r few. ne_eqb r.plain_before (length v.log) (λ same. omega (arith, few, same, size))) w.added within))

  -- so there is room for roots
  pub awaits : RemarksWithin w.log w.added → awaits_roots v.log v.added ≡ true
  awaits within =
      ap (λ o. option_map_or begins_roots o false && not (list_any (λ (r : Remark). nat_eq r.plain_before (length v.log)) v.added)) last_is
      ∙ ap (λ b. b && not (list_any (λ (r : Remark). nat_eq r.plain_before (length v.log)) v.added)) (asks object asker index)
      ∙ ap not (none_after within)
