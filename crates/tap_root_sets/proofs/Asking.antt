-- What a root set adds to the log of a world, by the answers of the calls.
use Rattle.std.proofs.Common.{◌≡◌, ◌≢◌, ℕ, true, List, [], ◌∷◌, ◌++◌, None, Some, Result, Ok, Err, refl, ap, sym, subst, ◌∙◌, append_assoc}
use Rattle.tap_name.specs.Settings.{SettingsValue}
use Rattle.tap_salt.specs.Salt.{roots_of}
use Rattle.tap_scenario.specs.declared.step.Step.{Step}
use Rattle.tap_scenario.specs.declared.step.Step.TheVariants.{RootSet}
use Rattle.tap_log.specs.declared.record.Record.{Record}
use Rattle.tap_log.specs.declared.record.Record.TheVariants.{Refused as RefusedRecord, RootsOf, Step as StepRecord}
use Rattle.tap_log.specs.declared.record.Refusal.{Refusal}
use Rattle.tap_log.specs.Reduced.{reduced}
use Rattle.tap_history.specs.Core.{core_of}
use Rattle.tap_history.specs.Refusals.{first_refusal}
use Rattle.tap_ledger.specs.Woven.{RemarksWithin}
use Rattle.tap_ledger.proofs.Woven.{woven_remark}
use Rattle.tap_runs.specs.Course.{is_choice, system_of}
use Rattle.tap_runs.specs.Group.{records_unless}
use Rattle.tap_runs.specs.Groups.{step_group}
use Rattle.tap_carried.specs.ReducedLogs.{starts_or_observes}
use Rattle.tap_engine.specs.Kinds.{awaits_roots, tells_roots}
use Rattle.tap_engine.specs.Outcome.{MayGoOn, Remarks, WorldAnswersAs, adds, mark_outcome, note_outcome}
use Rattle.tap_engine.specs.World.{WorldValue, whole_log}
use Rattle.tap_engine.specs.declared.stop.Stop.{Stop}
use Rattle.tap_engine.specs.declared.stop.Stop.TheVariants.{Ended, NoMemory, Refused, Spent}
use Rattle.tap_engine.proofs.WholeLogs.{note_added, whole_short}
use Rattle.tap_lawful.specs.CarriedNext.{begun_group, choice_group, group_unless}
use Rattle.tap_lawful.proofs.Coming.{choice_alone}
use Rattle.tap_root_sets.specs.AskedRoots.{AnswersRootSet, HasAddedRoots, HasLackedRoots, MayAsk}
use Rattle.tap_root_sets.proofs.Marking.{IsMarked, answer_is, awaits, log_is, marked, remark_goes, roots_told, within_more}

module _ (p : SettingsValue) (w : WorldValue) (may : MayAsk p w) (on : MayGoOn w) (plain : reduced (whole_log w) ≡ w.log)
    (within : RemarksWithin w.log w.added) (index : ℕ) (object asker : List ℕ) where
  abbrev step : Step
  step = RootSet object asker

  abbrev Answers : Result (Unit {0}) Stop → WorldValue → Type 0
  Answers given u = AnswersRootSet p index object asker w given u

  -- both logs refuse it alike
  same_refusal : first_refusal (whole_log w) step ≡ first_refusal w.log step
  unfolding starts_or_observes
  same_refusal = sym (may.agrees.refusals step refl) ∙ ap (λ l. first_refusal l step) plain

  same_core : core_of w.log ≡ core_of (whole_log w)
  same_core = ap core_of (sym plain) ∙ may.agrees.core

  -- ---- memory is refused

  -- nothing was added
  pub stays_short : HasLackedRoots w w
  stays_short = record { whole = refl; log = refl; left = record { beginning = refl; noted = on.noted } }

  -- nor was the step
  pub mark_short : (stop : Stop) (v : WorldValue) → WorldAnswersAs (mark_outcome w index step) w (Err stop) v → Answers (Err stop) v
  mark_short NoMemory v answers =
      let short = answers.memory refl in
      record {
        whole = whole_short (mark_outcome w index step) w v (Err NoMemory) answers refl;
        log = short.log;
        left = record { beginning = answers.beginning; noted = short.refused ∙ on.noted };
      }
  mark_short Spent v answers =
      let never : Err Spent ≡ Ok tt = answer_is (adds w (StepRecord index step ∷ [])) w v (Err Spent) may.runs answers (λ same. cc) in absurd (cc)
  mark_short Ended v answers =
      let never : Err Ended ≡ Ok tt = answer_is (adds w (StepRecord index step ∷ [])) w v (Err Ended) may.runs answers (λ same. cc) in absurd (cc)
  mark_short (Refused refusal) v answers =
      let never : Err (Refused refusal) ≡ Ok tt =
      answer_is (adds w (StepRecord index step ∷ [])) w v (Err (Refused refusal)) may.runs answers (λ same. cc) in
      absurd (cc)

  module _ (v : WorldValue) (answers : WorldAnswersAs (mark_outcome w index step) w (Ok tt) v) where
    -- the step was added
    pub is_marked : IsMarked w v index step
    is_marked = marked w v index step on may.runs within answers

    -- ---- it is refused

    refused_adds : (refusal : Refusal) (u : WorldValue) → first_refusal w.log step ≡ Some refusal
        → WorldAnswersAs (note_outcome v index refusal) v (Ok tt) u → HasAddedRoots p index object asker w u
    refused_adds refusal u is notes =
        let first : List Record = StepRecord index step ∷ [] in
        let last : List Record = RefusedRecord index refusal ∷ [] in
        let is_first = is_marked in
        let noted = note_added v u (within_more w v index object asker is_first within) index refusal notes in
        record {
          whole = noted.whole ∙ ap (λ l. l ++ last) is_first.whole ∙ append_assoc (whole_log w) first last
              ∙ ap (λ r. whole_log w ++ group_unless p (whole_log w) index step r) (sym (same_refusal ∙ is));
          log = log_is _ v u is_first.runs notes ∙ ap (λ l. l ++ last) is_first.log ∙ append_assoc w.log first last
              ∙ ap (λ r. w.log ++ StepRecord index step ∷ records_unless p w.log (system_of w.log) index step r) (sym is);
          left = record { beginning = notes.beginning ∙ is_first.beginning; noted = noted.left };
          runs = noted.goes_on;
        }

    pub noted_so : (refusal : Refusal) (given : Result (Unit {0}) Stop) (u : WorldValue) → first_refusal w.log step ≡ Some refusal
        → WorldAnswersAs (note_outcome v index refusal) v given u → given ≢ Err NoMemory → Answers given u
    noted_so refusal given u is notes enough =
        let done : given ≡ Ok tt = answer_is _ v u given is_marked.runs notes enough in
        subst (λ r. Answers r u) (sym done)
        (refused_adds refusal u is (subst (λ r. WorldAnswersAs (note_outcome v index refusal) v r u) done notes))

    -- ---- it is accepted

    accepted_is : first_refusal w.log step ≡ None
        → begun_group p (whole_log w) index step ≡ StepRecord index step ∷ RootsOf object asker (roots_of p.base (core_of (whole_log w)) object) ∷ []
    unfolding is_choice choice_group
    accepted_is accepted = ap (group_unless p (whole_log w) index step) (same_refusal ∙ accepted)

    alone_is : first_refusal w.log step ≡ None → step_group p w.log index step ≡ StepRecord index step ∷ []
    unfolding is_choice
    alone_is accepted =
        ap (λ r. StepRecord index step ∷ records_unless p w.log (system_of w.log) index step r) accepted
        ∙ ap (λ l. StepRecord index step ∷ l) (choice_alone p w.log (system_of w.log) index step refl)

    roots_add : (found : List (List ℕ)) (u : WorldValue) → first_refusal w.log step ≡ None → found ≡ roots_of p.base (core_of w.log) object
        → Remarks (RootsOf object asker found) v (Ok tt) u → HasAddedRoots p index object asker w u
    roots_add found u accepted is remarked =
        let first : List Record = StepRecord index step ∷ [] in
        let last : List Record = RootsOf object asker found ∷ [] in
        let is_first = is_marked in
        let stays = remarked.added refl in
        record {
          whole = ap whole_log stays ∙ woven_remark v.log v.added (RootsOf object asker found) ∙ ap (λ l. l ++ last) is_first.whole ∙ append_assoc (whole_log w) first last
              ∙ ap (λ l. whole_log w ++ StepRecord index step ∷ RootsOf object asker l ∷ [])
              (is ∙ ap (λ core. roots_of p.base core object) same_core)
              ∙ ap (λ g. whole_log w ++ g) (sym (accepted_is accepted));
          log = ap (λ (x : WorldValue). x.log) stays ∙ is_first.log ∙ ap (λ g. w.log ++ g) (sym (alone_is accepted));
          left = record {
            beginning = ap (λ (x : WorldValue). x.beginning) stays ∙ is_first.beginning;
            noted = ap (λ (x : WorldValue). x.refused) stays ∙ is_first.noted;
          };
          runs = ap (λ (x : WorldValue). x.stopped) stays ∙ is_first.runs;
        }

    pub told_so : (found : List (List ℕ)) (given : Result (Unit {0}) Stop) (u : WorldValue) → first_refusal w.log step ≡ None
        → found ≡ roots_of p.base (core_of w.log) object → Remarks (RootsOf object asker found) v given u
        → (tells_roots (RootsOf object asker found) ≡ true → awaits_roots v.log v.added ≡ true → given ≢ Err NoMemory) → Answers given u
    told_so found given u accepted is remarks room =
        let enough : given ≢ Err NoMemory = room (roots_told object asker found) (awaits w v index object asker is_marked within) in
        let done : given ≡ Ok tt = remark_goes (RootsOf object asker found) v u given is_marked.runs remarks enough in
        subst (λ r. Answers r u) (sym done)
        (roots_add found u accepted is (subst (λ r. Remarks (RootsOf object asker found) v r u) done remarks))
