-- Each log of a run is safe throughout, and so it is once how the run has ended stands after it, or a step that is refused.
-- Cited above: at_moments, cut_last, ended_logs_are_safe, one_more
use Rattle.std.proofs.Common.{◌≡◌, inl, inr, ℕ, zero, suc, ◌+◌, ◌<◌, ◌≤◌, Bool, true, false, not, List, [], ◌∷◌, ◌++◌, length, take, All, None, Some, refl, ap, sym, subst, ◌∙◌, arith, length-append}
use Rattle.std.specs.Prelude.{◌&&◌, ◌||◌, drop, nat_eq, nat_le, slice_get, unwrap_or, filter}
use Rattle.std.specs.List.{last_or, list_any, range_with_len}
use Rattle.std.proofs.Math.Seq.{drop-length, take-length}
use Rattle.std.proofs.lemmas.Bool.{and_parts, cases_lt, le-leb}
use Rattle.std.proofs.lemmas.List.{take-append-le}
use Rattle.std.proofs.lemmas.List.Elements.{All-cons, All-nil}
use Rattle.tap_name.specs.Name.{IsName}
use Rattle.tap_name.specs.Names.{Among, has_name}
use Rattle.tap_name.specs.Settings.{SettingsValue}
use Rattle.tap_scenario.specs.declared.step.Step.{Step}
use Rattle.tap_log.specs.declared.record.Record.{Record}
use Rattle.tap_log.specs.declared.record.Record.TheVariants.{Finished, Spent, Step as StepRecord}
use Rattle.tap_log.specs.declared.record.Refusal.{Refusal}
use Rattle.tap_log.specs.Kinds.{begins_group, is_carried}
use Rattle.tap_history.specs.Core.{core_of}
use Rattle.tap_history.specs.Departing.{departing_of, is_still_moment, last_still}
use Rattle.tap_history.specs.GroupLaws.{IsGroup}
use Rattle.tap_history.specs.Moments.{awaiting, ends_before, is_moment, is_none, is_rest, is_still, under_way}
use Rattle.tap_history.specs.Refusals.{first_refusal}
use Rattle.tap_history.proofs.Instants.{moment-within}
use Rattle.tap_history.proofs.OneMoreGroup.{departs, moment_by, one_more_group_holds}
use Rattle.tap_history.proofs.Stepwise.{last_passes}
use Rattle.tap_surrogate.specs.HoleFree.{IsHoleFree}
use Rattle.tap_surrogate.specs.WalkLaws.{LeadsToRoot}
use Rattle.tap_surrogate.specs.Nodes.{core_links}
use Rattle.tap_surrogate.specs.Walk.{walk}
use Rattle.tap_safety.specs.Rest.{Rest}
use Rattle.tap_safety.specs.System.{System}
use Rattle.tap_runs.specs.Beginning.{Beginning}
use Rattle.tap_runs.specs.Course.{system_of}
use Rattle.tap_runs.specs.Observed.{nodes_of}
use Rattle.tap_safe_runs.specs.SafeLogs.{AtMomentsOf, EndedLogsAreSafe, IsSafeThroughout}
use Rattle.tap_safe_runs.specs.Leavers.{LeaversAreGone}
use Rattle.tap_safe_runs.specs.Moments.{HasCoreNodes, HasNoHole, RestIsAllCore, WalksEndAtRoots, tables_of}
use Rattle.tap_safe_runs.specs.Safe.{IsRun}
use Rattle.tap_safe_runs.proofs.NeverAlone.{no_start_last}
use Rattle.tap_safe_runs.proofs.Leavers.{HasNoDeparture, cut_departs_none, leavers_are_gone, leavers_at, leavers_stay, one_departs_none}
use Rattle.tap_safe_runs.proofs.Ended.{IsOpen, SaysTheSame, cut_carried, cut_says, cut_system, finished_is_carried, finished_says, finished_system, refused_system, run_is_open, spent_is_carried, spent_says, spent_system, step_is_carried, step_says}
use Rattle.tap_safe_runs.proofs.Moments.{all_core_at, core_nodes_at, no_hole, no_hole_at, rest_is_all_core, some_core, walks_end, walks_end_at}

pub run_is_safe : (b : Beginning) (log : List Record) → IsRun b log → IsSafeThroughout b.settings log
run_is_safe b log run = record {
  core = λ m is. core_nodes_at b log m run is;
  hole_free = λ m is. no_hole_at b log m run is;
  walks = λ m is. walks_end_at b log m run is;
  rest = λ m is. all_core_at b log m run is;
  leavers = λ m is. leavers_at b log m run is;
}

-- ---- who departs at a moment at which no frame is outstanding

some_size : (n : ℕ) → 1 ≤ n → (k : ℕ) × (n ≡ k + 1)
some_size zero none = absurd (omega arith)
some_size (suc k) some = (k, omega arith)

-- such a moment at the end of a log is its last one
ends_still : (log : List Record) → 1 ≤ length log → is_moment log (length log) ≡ true → is_still log ≡ true → length log ≡ last_still log
ends_still log some moment still =
    let size = some_size (length log) some in
    let passes : is_still_moment log (length log) ≡ true =
    ap (λ b. b && is_still (take (length log) log)) moment ∙ ap is_still (take-length log) ∙ still in
    subst (λ n. length log ≡ unwrap_or (last_or None (filter (is_still_moment log) (range_with_len 1 n))) 0) (sym size.1)
    (last_passes (is_still_moment log) size.0 (length log) (subst (λ n. is_still_moment log n ≡ true) size.1 passes) size.1)

nobody_departs : (log : List Record) → 1 ≤ length log → is_moment log (length log) ≡ true → is_still log ≡ true → departing_of log ≡ None
nobody_departs log some moment still =
    ap (λ k. departs (is_carried log) (drop k log)) (sym (ends_still log some moment still))
    ∙ ap (departs (is_carried log)) (drop-length log)

-- ---- the moments of a longer log

-- what may follow where a group ends may follow where the log does
weaker_by : (within here begun ends other : Bool) → (ends ≡ true → other ≡ true) → (within && (here || (begun && ends))) ≡ true
    → (within && (here || (begun && other))) ≡ true
weaker_by true true begun ends other weaker is = refl
weaker_by true false true ends other weaker is = weaker is
weaker_by true false false ends other weaker is = is
weaker_by false here begun ends other weaker is = is

module _ (log ending : List Record) (uncarried : is_carried log ≡ false) (still : is_carried (log ++ ending) ≡ false) where
  abbrev longer : List Record
  longer = log ++ ending

  -- within the log, or at its end
  ends_weaker : (m : ℕ) → m ≤ length log → ends_before false (slice_get longer m) ≡ true → ends_before false (slice_get log m) ≡ true
  ends_weaker m le is = by_list log m ending is
    where
      by_list : (items : List Record) (k : ℕ) (others : List Record) → ends_before false (slice_get (items ++ others) k) ≡ true
          → ends_before false (slice_get items k) ≡ true
      by_list [] k others is = refl
      by_list (item ∷ items) zero others is = is
      by_list (item ∷ items) (suc k) others is = by_list items k others is

  -- a moment up to the end of the log was one of the log
  moment_before : (m : ℕ) → m ≤ length log → is_moment longer m ≡ true → is_moment log m ≡ true
  moment_before m le is =
      let size = length-append log ending in
      let within : nat_le m (length longer) ≡ true = le-leb m (length longer) (omega (arith, le, size)) in
      let plain : moment_by m true false (take m log) (ends_before false (slice_get longer m)) ≡ true =
      sym (ap (λ b. moment_by m b (is_carried longer) (take m longer) (ends_before (is_carried longer) (slice_get longer m))) within
      ∙ ap (λ c. moment_by m true c (take m longer) (ends_before c (slice_get longer m))) still
      ∙ ap (λ l. moment_by m true false l (ends_before false (slice_get longer m))) (take-append-le m log ending le)) ∙ is in
      let weaker : moment_by m true false (take m log) (ends_before false (slice_get log m)) ≡ true =
      weaker_by true (nat_eq m 1) (list_any (begins_group false) (take m log)) (ends_before false (slice_get longer m))
      (ends_before false (slice_get log m)) (ends_weaker m le) plain in
      ap (λ b. moment_by m b (is_carried log) (take m log) (ends_before (is_carried log) (slice_get log m)))
      (le-leb m (length log) le)
      ∙ ap (λ c. moment_by m true c (take m log) (ends_before c (slice_get log m))) uncarried ∙ weaker

  -- so what holds at its moments, and of the whole, holds at each moment
  module _ (last : (m : ℕ) → length log < m → is_moment longer m ≡ true → m ≡ length longer) where
    pub at_moments : (Holds : List Record → Type 0) → AtMomentsOf log Holds → (is_moment longer (length longer) ≡ true → Holds longer)
        → AtMomentsOf longer Holds
    at_moments Holds before whole m is = elim (cases_lt (length log) m) [
      | inl past ↦
          let end = last m past is in
          subst Holds (sym (ap (λ k. take k longer) end ∙ take-length longer))
          (whole (subst (λ k. is_moment longer k ≡ true) end is))
      | inr within ↦ subst Holds (sym (take-append-le m log ending within)) (before m (moment_before m within is))
    ]

-- ---- what holds of a log that says the same

module _ (p : SettingsValue) (log longer : List Record) (says : SaysTheSame log longer) (system : system_of longer ≡ system_of log) where
  same_core : HasCoreNodes p log → HasCoreNodes p longer
  same_core some none = some (sym says.core ∙ none)

  same_tables : HasNoHole p log → HasNoHole p longer
  same_tables hole_free =
      subst (λ core. IsHoleFree p core (tables_of longer)) (sym says.core)
      (subst (λ s. IsHoleFree p (core_of log) (core_links (nodes_of s))) (sym system) hole_free)

  same_walks : WalksEndAtRoots p log → WalksEndAtRoots p longer
  same_walks walks =
      subst (λ s. (from object : List ℕ) → Among from (core_of longer) → IsName p object
      → LeadsToRoot p (core_of longer) from object (walk p.base (core_links (nodes_of s)) from object)) (sym system)
      (subst (λ core. (from object : List ℕ) → Among from core → IsName p object
      → LeadsToRoot p core from object (walk p.base (tables_of log) from object)) (sym says.core) walks)

  module _ (uncarried : is_carried log ≡ false) (begun : 1 ≤ length longer) (moment : is_moment longer (length longer) ≡ true) where
    rests : is_rest longer ≡ true → is_rest log ≡ true
    rests rest =
        let still = (and_parts (is_still longer) (not (is_carried longer) || (is_none (under_way longer) && is_none (awaiting longer))) rest).0
        in
        ap (λ c. is_still log && (not c || (is_none (under_way log) && is_none (awaiting log)))) uncarried
        ∙ ap (λ b. b && true) (sym (ap is_none says.frames) ∙ still)

    same_rest : RestIsAllCore p log → RestIsAllCore p longer
    same_rest all_core rest =
        let still = (and_parts (is_still longer) (not (is_carried longer) || (is_none (under_way longer) && is_none (awaiting longer))) rest).0
        in
        let all = all_core (rests rest) in
        record {
          joined = λ x. ap (λ l. has_name l x) says.present ∙ all.joined x ∙ sym (ap (λ l. has_name l x) says.core);
          given_up = λ x given.
              ap (λ l. has_name l x) says.gone ∙ all.given_up x (sym (ap (λ l. has_name l x) says.abandoned) ∙ given);
          departing = nobody_departs longer begun moment still;
          sessions = λ x node k at. all.sessions x node k (sym (ap (λ (s : System). s.node x) system) ∙ at);
          left = subst Rest (sym system) all.left;
        }

-- ---- what ends a run

module _ (b : Beginning) (log : List Record) (run : IsRun b log) where
  abbrev is_open : IsOpen log
  is_open = run_is_open b log run

  with_ending : (ending : List Record) → is_carried (log ++ ending) ≡ false → SaysTheSame log (log ++ ending)
      → system_of (log ++ ending) ≡ system_of log → HasNoDeparture ending
      → ((m : ℕ) → length log < m → is_moment (log ++ ending) m ≡ true → m ≡ length (log ++ ending))
      → IsSafeThroughout b.settings (log ++ ending)
  with_ending ending still says system none last =
      let p = b.settings in
      let has = run_is_safe b log run in
      let longer = log ++ ending in
      let size = length-append log ending in
      let from = is_open.begun in
      let begun : 1 ≤ length longer = omega (arith, size, from) in
      let at : (Holds : List Record → Type 0) → AtMomentsOf log Holds → (is_moment longer (length longer) ≡ true → Holds longer)
      → AtMomentsOf longer Holds = at_moments log ending is_open.uncarried still last in
      record {
        core = at (HasCoreNodes p) has.core (λ moment. same_core p log longer says system (some_core b log run));
        hole_free = at (HasNoHole p) has.hole_free (λ moment. same_tables p log longer says system (no_hole b log run));
        walks = at (WalksEndAtRoots p) has.walks (λ moment. same_walks p log longer says system (walks_end b log run));
        rest = at (RestIsAllCore p) has.rest
            (λ moment. same_rest p log longer says system is_open.uncarried begun moment (rest_is_all_core b log run));
        leavers = at (LeaversAreGone p) has.leavers
            (λ moment. leavers_stay p log ending (no_start_last b log run) none
            (rests p log longer says system is_open.uncarried begun moment) (leavers_are_gone b log run));
      }

  -- one record after the log is its end
  pub one_more : (item : Record) (m : ℕ) → length log < m → is_moment (log ++ item ∷ []) m ≡ true → m ≡ length (log ++ item ∷ [])
  one_more item m past is =
      let size = length-append log (item ∷ []) in
      let within = moment-within (log ++ item ∷ []) m is in
      omega (arith, size, within, past)

  spent_begins_none : (limit : ℕ) → All (λ item. begins_group (is_carried log) item ≡ false) (Spent limit ∷ [])
  unfolding begins_group
  spent_begins_none limit = All-cons (λ item. begins_group (is_carried log) item ≡ false) (Spent limit) [] refl (All-nil _)

  step_begins_one : (index : ℕ) (step : Step) → begins_group (is_carried log) (StepRecord index step) ≡ true
  unfolding begins_group
  step_begins_one index step = refl

  -- no moment is between a step and that the run is spent
  pub cut_last : (index : ℕ) (step : Step) (limit : ℕ) (m : ℕ) → length log < m
      → is_moment (log ++ StepRecord index step ∷ Spent limit ∷ []) m ≡ true → m ≡ length (log ++ StepRecord index step ∷ Spent limit ∷ [])
  cut_last index step limit m past is = elim (cases_lt m (length longer)) [
    | inl before ↦
        let none = one_more_group_holds.within log (StepRecord index step) (Spent limit ∷ []) group m past before in
        let wrong : false ≡ true = sym none ∙ is in absurd (cc)
    | inr from ↦
        let within = moment-within longer m is in
        omega (arith, within, from)
  ]
    where
      longer : List Record
      longer = log ++ StepRecord index step ∷ Spent limit ∷ []

      group : IsGroup log (StepRecord index step) (Spent limit ∷ [])
      group = record { begun = is_open.begun; begins = step_begins_one index step; alone = spent_begins_none limit }

  pub finished_safe : (steps : ℕ) → IsSafeThroughout b.settings (log ++ Finished steps ∷ [])
  finished_safe steps =
      with_ending (Finished steps ∷ []) (finished_is_carried log steps ∙ is_open.uncarried)
      (finished_says log steps (no_start_last b log run)) (finished_system log is_open steps) (one_departs_none (Finished steps))
      (one_more (Finished steps))

  pub spent_safe : (limit : ℕ) → IsSafeThroughout b.settings (log ++ Spent limit ∷ [])
  spent_safe limit =
      with_ending (Spent limit ∷ []) (spent_is_carried log limit ∙ is_open.uncarried)
      (spent_says log limit) (spent_system log is_open limit (no_start_last b log run)) (one_departs_none (Spent limit)) (one_more (Spent limit))

  pub cut_safe : (index : ℕ) (step : Step) (limit : ℕ) → IsSafeThroughout b.settings (log ++ StepRecord index step ∷ Spent limit ∷ [])
  cut_safe index step limit =
      with_ending (StepRecord index step ∷ Spent limit ∷ []) (cut_carried log is_open index step limit)
      (cut_says log index step limit) (cut_system b log run index step limit) (cut_departs_none index step limit) (cut_last index step limit)

  pub refused_safe : (index : ℕ) (step : Step) (refusal : Refusal) → first_refusal log step ≡ Some refusal
      → IsSafeThroughout b.settings (log ++ StepRecord index step ∷ [])
  refused_safe index step refusal is =
      with_ending (StepRecord index step ∷ []) (step_is_carried log index step ∙ is_open.uncarried)
      (step_says log index step) (refused_system b log run index step refusal is) (one_departs_none (StepRecord index step))
      (one_more (StepRecord index step))

pub ended_logs_are_safe : EndedLogsAreSafe
ended_logs_are_safe = record {
  going = run_is_safe;
  finished = λ b log steps run. finished_safe b log run steps;
  spent = λ b log limit run. spent_safe b log run limit;
  cut = λ b log index step limit run. cut_safe b log run index step limit;
  refused = λ b log index step refusal run is. refused_safe b log run index step refusal is;
}
