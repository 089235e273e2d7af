-- What holds at each moment of a run, and stays so with the ending of its log, holds at each moment of the log with its ending.
use Rattle.std.proofs.Common.{◌≡◌, inl, inr, ℕ, true, false, not, List, [], ◌∷◌, ◌++◌, length, None, append-nil, append_assoc, ap, sym, subst, ◌∙◌}
use Rattle.std.specs.Prelude.{◌&&◌, ◌||◌, if◌then◌else◌, nat_eq, nat_le}
use Rattle.std.specs.List.{list_any}
use Rattle.std.proofs.Math.Seq.{take-length}
use Rattle.std.proofs.lemmas.Bool.{and_parts}
use Rattle.tap_name.specs.Settings.{SettingsValue}
use Rattle.tap_log.specs.declared.record.Record.{Record}
use Rattle.tap_log.specs.declared.record.Record.TheVariants.{Step as StepRecord}
use Rattle.tap_log.specs.Kinds.{begins_group, is_carried}
use Rattle.tap_log.proofs.MoreRecords.{carried_alone}
use Rattle.tap_scenario.specs.declared.step.Step.{Step}
use Rattle.tap_history.specs.Groups.{EachGroup, EachGroupFrom, beginning_of, groups_of, is_ended, records_of}
use Rattle.tap_history.specs.Moments.{awaiting, ends_before, is_moment, is_none, is_rest, is_still, under_way}
use Rattle.tap_history.proofs.OneMoreGroup.{one_more_group_holds}
use Rattle.tap_history.proofs.Parts.{log_is_groups}
use Rattle.tap_runs.specs.Beginning.{Beginning, begin_record}
use Rattle.tap_runs.specs.Course.{Follows, IsCourse}
use Rattle.tap_runs.proofs.CourseGrows.{by_groups, whole}
use Rattle.tap_safe_runs.specs.SafeLogs.{AtMomentsOf}
use Rattle.tap_safe_runs.specs.Moments.{AtEachMoment}
use Rattle.tap_safe_runs.specs.Safe.{IsRun}
use Rattle.tap_safe_runs.proofs.Ended.{run_is_open}
use Rattle.tap_safe_runs.proofs.SafeLogs.{at_moments}
use Rattle.tap_headline.proofs.Ended.{IsEnded, beginning_stays}

-- an ending keeps the statement: if it holds of the log it holds of the log with its ending, which ends at a moment
abbrev pub IsKept : (SettingsValue → List Record → Type 0) → Type 0
IsKept Holds = (b : Beginning) (log ending : List Record) → IsEnded b log ending → is_moment (log ++ ending) (length (log ++ ending)) ≡ true
    → Holds b.settings log → Holds b.settings (log ++ ending)

-- ---- the end of a run

one_is_moment : (item : Record) → is_moment (item ∷ []) 1 ≡ true
one_is_moment item =
    ap (λ c. nat_le 1 1 && (nat_eq 1 (if c then 2 else 1) || (list_any (begins_group c) (item ∷ []) && ends_before c None)))
    (carried_alone item)

-- a run ends at a moment
module _ (b : Beginning) where
  abbrev EndsAtMoment : List Record → Type 0
  EndsAtMoment log = is_moment log (length log) ≡ true

  ends_grow : (log group : List Record) → IsCourse b log → is_ended log ≡ false → Follows b log group → EndsAtMoment log
      → EndsAtMoment (log ++ group)
  ends_grow log group course going follows before =
      let w = whole b log group course going follows in
      subst (λ g. EndsAtMoment (log ++ g)) (sym w.is) (one_more_group_holds.end log w.first w.after w.whole)

  pub run_ends : (log : List Record) → IsRun b log → EndsAtMoment log
  run_ends log run = by_groups b EndsAtMoment ends_grow (one_is_moment (begin_record b)) log run.course run.going

-- ---- the statements

-- what holds of the log of a run, if it holds at each of its moments
module _ (Holds : SettingsValue → List Record → Type 0) (each : AtEachMoment Holds) where
  pub at_run : (b : Beginning) (log : List Record) → IsRun b log → AtMomentsOf log (Holds b.settings)
  at_run b log run m is = each b log m run is

  of_run : (b : Beginning) (log : List Record) → IsRun b log → Holds b.settings log
  of_run b log run = subst (Holds b.settings) (take-length log) (each b log (length log) run (run_ends b log run))

  -- so it does with an ending, if this keeps it
  pub at_ended : IsKept Holds → (b : Beginning) (log ending : List Record) → IsEnded b log ending
      → AtMomentsOf (log ++ ending) (Holds b.settings)
  at_ended kept b log ending ended =
      at_moments log ending (run_is_open b log ended.run).uncarried ended.uncarried ended.last (Holds b.settings) (at_run b log ended.run)
      (λ moment. kept b log ending ended moment (of_run b log ended.run))

-- ---- what an ending keeps

module _ (b : Beginning) (log ending : List Record) (ended : IsEnded b log ending) where
  -- a rest was one before
  pub rest_before : is_rest (log ++ ending) ≡ true → is_rest log ≡ true
  rest_before rest =
      let longer = log ++ ending in
      let still = (and_parts (is_still longer) (not (is_carried longer) || (is_none (under_way longer) && is_none (awaiting longer))) rest).0 in
      ap (λ c. is_still log && (not c || (is_none (under_way log) && is_none (awaiting log)))) (run_is_open b log ended.run).uncarried
      ∙ ap (λ b. b && true) (sym (ap is_none ended.same.frames) ∙ still)

  -- what is so of each group, and also of one of a step alone, is so of each group of the longer log
  module _ (P Q : List Record → List Record → Type 0) (weaker : (before group : List Record) → P before group → Q before group)
      (alone : (index : ℕ) (step : Step) → Q log (StepRecord index step ∷ [])) where
    each_weaker : (before : List Record) (groups : List (List Record)) → EachGroupFrom P before groups → EachGroupFrom Q before groups
    each_weaker before [] each = tt
    each_weaker before (group ∷ groups) each = (weaker before group each.0, each_weaker (before ++ group) groups each.1)

    each_more : (before : List Record) (groups : List (List Record)) (group : List Record) → EachGroupFrom P before groups
        → Q (before ++ records_of groups) group → EachGroupFrom Q before (groups ++ group ∷ [])
    each_more before [] group each last = let At : List Record → Type 0 = λ l. Q l group in (subst At (append-nil before) last, tt)
    each_more before (one ∷ groups) group each last =
        let At : List Record → Type 0 = λ l. Q l group in (
          weaker before one each.0,
          each_more (before ++ one) groups group each.1 (subst At (sym (append_assoc before one (records_of groups))) last),
        )

    pub each_group : EachGroup P log → EachGroup Q (log ++ ending)
    each_group each =
        let start = beginning_of log in
        let Each : List Record → List (List Record) → Type 0 = λ l groups. EachGroupFrom Q l groups in
        subst (λ l. Each l (groups_of (log ++ ending))) (sym (beginning_stays b log ending ended)) (
        elim ended.groups [
          | inl same ↦ subst (Each start) (sym same) (each_weaker start (groups_of log) each)
          | inr one ↦
              let group = StepRecord one.index one.step ∷ [] in
              let At : List Record → Type 0 = λ l. Q l group in
              subst (Each start) (sym one.groups)
              (each_more start (groups_of log) group each
              (subst At (sym (log_is_groups log ended.run.going)) (alone one.index one.step)))
        ]
        )
