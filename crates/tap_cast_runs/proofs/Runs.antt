-- What is remembered of watch lists by a run, and that what is said of them holds.
use Rattle.std.proofs.Common.{◌≡◌, false, List, [], ◌∷◌, ◌++◌, take, Option, None, Some, refl, sym, ap, subst, ◌∙◌, append_assoc}
use Rattle.std.proofs.lemmas.List.{append-nil}
use Rattle.tap_name.specs.Settings.{SettingsValue}
use Rattle.tap_watch.specs.Watch.{IsWatched}
use Rattle.tap_log.specs.declared.record.Record.{Record}
use Rattle.tap_history.proofs.Ends.{log_in_groups_holds}
use Rattle.tap_history.specs.Groups.{groups_of, is_ended, records_of}
use Rattle.tap_safety.specs.AtRest.{system_at_rest}
use Rattle.tap_safety.specs.Move.{Move}
use Rattle.tap_safety.specs.System.{System}
use Rattle.tap_runs.specs.Beginning.{Beginning, IsWithinLimits, begin_record}
use Rattle.tap_runs.specs.Course.{Follows, IsCourse, move_of_group, moved_by, system_after, system_from, system_of}
use Rattle.tap_runs.specs.Named.{HaveNames}
use Rattle.tap_runs.proofs.CourseGrows.{by_groups, course_grows_holds, grown, grown_groups, grown_system, log_is, start_system}
use Rattle.tap_safety_moves.specs.Sound.{Sound}
use Rattle.tap_safe_runs.specs.Moments.{AtEachMoment}
use Rattle.tap_safe_runs.specs.Safe.{IsRun}
use Rattle.tap_safe_runs.proofs.Possible.{group_may_move}
use Rattle.tap_safe_runs.proofs.Safe.{run_at_moment, runs_are_sound, steps_after, steps_before}
use Rattle.tap_safe_runs.proofs.Lawful.{lawful_logs_are_safe}
use Rattle.tap_safe_runs.specs.Lawful.{beginning_in}
use Rattle.tap_cast_runs.specs.SlotAnswers.{WatchMemory, none_answered}
use Rattle.tap_cast_runs.specs.Chains.{ChainsLead}
use Rattle.tap_cast_runs.specs.Had.{AnswersAreHeld}
use Rattle.tap_cast_runs.specs.Watched.{IsAnswered, WatchesAreSound}
use Rattle.tap_cast_runs.specs.Runs.{LawfulWatchesHold, RunAnswersAreKept, RunChainsAreKept, RunCoreHasAnswers, RunCoversAreAnswered, RunWatchesAreKept, WatchesHoldIn, watch_recalled_by, watches_after, watches_from, watches_of}
use Rattle.tap_cast_runs.proofs.Chains.{move_keeps_chains, no_chains}
use Rattle.tap_cast_runs.proofs.HeldAnew.{answers_at_rest, core_has, move_keeps_answers}
use Rattle.tap_cast_runs.proofs.WatchesKept.{move_keeps_watches, watches_at_rest}

-- ---- what is remembered after one more group

watches_after-push : (p : SettingsValue) (before : List Record) (s : System) (r : WatchMemory) (groups : List (List Record))
    (group : List Record) → watches_after p before s r (groups ++ group ∷ [])
    ≡ watch_recalled_by (system_after p before s groups) (watches_after p before s r groups) (move_of_group (before ++ records_of groups) group)
watches_after-push p before s r [] group = ap (λ l. watch_recalled_by s r (move_of_group l group)) (sym (append-nil before))
watches_after-push p before s r (one ∷ groups) group =
    let move = move_of_group before one in
    let next = moved_by p s move in
    let recall = watch_recalled_by s r move in
    watches_after-push p (before ++ one) next recall groups group
    ∙ ap (λ l. watch_recalled_by (system_after p (before ++ one) next groups) (watches_after p (before ++ one) next recall groups)
    (move_of_group l group)) (append_assoc before one (records_of groups))

watches_from-begin : (b : Beginning) (groups : List (List Record))
    → watches_from (begin_record b ∷ []) groups
    ≡ watches_after b.settings (begin_record b ∷ []) (system_at_rest b.settings b.members) none_answered groups
unfolding watches_from
watches_from-begin b groups = refl

system_from-begin : (b : Beginning) (groups : List (List Record))
    → system_from (begin_record b ∷ []) groups
    ≡ system_after b.settings (begin_record b ∷ []) (system_at_rest b.settings b.members) groups
unfolding system_from
system_from-begin b groups = refl

pub grown_watches : (b : Beginning) (log group : List Record) → IsCourse b log → is_ended log ≡ false → Follows b log group
    → watches_of (log ++ group) ≡ watch_recalled_by (system_of log) (watches_of log) (move_of_group log group)
grown_watches b log group course going follows =
    let p = b.settings in
    let start = begin_record b ∷ [] in
    let rest = system_at_rest p b.members in
    ap (λ l. watches_from l (groups_of (log ++ group))) (grown b log group course going follows).begins
    ∙ ap (watches_from start) (grown_groups b log group course going follows)
    ∙ watches_from-begin b (groups_of log ++ group ∷ [])
    ∙ watches_after-push p start rest none_answered (groups_of log) group
    ∙ ap (λ l. watch_recalled_by (system_after p start rest (groups_of log)) (watches_after p start rest none_answered (groups_of log))
    (move_of_group l group)) (log_is b log course going)
    ∙ ap (λ s. watch_recalled_by s (watches_after p start rest none_answered (groups_of log)) (move_of_group log group))
    (sym (ap (λ l. system_from l (groups_of log)) course.begins ∙ system_from-begin b (groups_of log)))
    ∙ ap (λ r. watch_recalled_by (system_of log) r (move_of_group log group))
    (sym (ap (λ l. watches_from l (groups_of log)) course.begins ∙ watches_from-begin b (groups_of log)))

-- ---- it is kept

-- what is said of watch lists, of answers and of chains
abbrev AreAll : SettingsValue → System → WatchMemory → Type 0
AreAll p s r = WatchesAreSound p s r × AnswersAreHeld p s r × ChainsLead s r

module _ (b : Beginning) where
  abbrev IsKept : List Record → Type 0
  IsKept log = AreAll b.settings (system_of log) (watches_of log)

  -- if the log's steps have names of the settings
  abbrev IsKeptIf : List Record → Type 0
  IsKeptIf log = HaveNames b.settings log → IsKept log

  module _ (log group : List Record) (course : IsCourse b log) (going : is_ended log ≡ false) (follows : Follows b log group)
      (before : HaveNames b.settings log) (steps : HaveNames b.settings group) (kept : IsKept log) where
    sound : Sound b.settings (system_of log)
    sound = runs_are_sound b log (record { course = course; going = going; steps = before })

    moved_watches : (move : Option Move) → move_of_group log group ≡ move
        → AreAll b.settings (moved_by b.settings (system_of log) move) (watch_recalled_by (system_of log) (watches_of log) move)
    moved_watches None is = kept
    moved_watches (Some move) is =
        let may = group_may_move b log group move course going sound.invariant.basis follows steps is in (
          move_keeps_watches b.settings (system_of log) (watches_of log) move may sound kept.0,
          move_keeps_answers b.settings (system_of log) (watches_of log) move may sound kept.1,
          move_keeps_chains b.settings (system_of log) (watches_of log) move may sound kept.2,
        )

    kept_grows : IsKept (log ++ group)
    kept_grows =
        subst (λ t. AreAll b.settings t (watches_of (log ++ group))) (sym (grown_system b log group course going follows))
        (subst (AreAll b.settings (moved_by b.settings (system_of log) (move_of_group log group)))
        (sym (grown_watches b log group course going follows)) (moved_watches (move_of_group log group) refl))

  pub start_watches : IsWithinLimits b → watches_of (begin_record b ∷ []) ≡ none_answered
  start_watches limits =
      ap (λ l. watches_from l (groups_of (begin_record b ∷ []))) (course_grows_holds.starts b limits).begins
      ∙ ap (watches_from (begin_record b ∷ [])) (log_in_groups_holds.none b.settings b.frames b.members) ∙ watches_from-begin b []

  start_kept : IsWithinLimits b → IsKept (begin_record b ∷ [])
  start_kept limits =
      subst (λ t. AreAll b.settings t (watches_of (begin_record b ∷ []))) (sym (start_system b))
      (subst (AreAll b.settings (system_at_rest b.settings b.members)) (sym (start_watches limits))
      (let members = course_grows_holds.members b limits in (
        watches_at_rest b.settings b.members members,
        answers_at_rest b.settings b.members members,
        no_chains (system_at_rest b.settings b.members) refl,
      )))

  keeps : (log group : List Record) → IsCourse b log → is_ended log ≡ false → Follows b log group → IsKeptIf log → IsKeptIf (log ++ group)
  keeps log group course going follows kept steps =
      let before = steps_before b.settings log group steps in
      kept_grows log group course going follows before (steps_after b.settings log group steps) (kept before)

  pub runs_keep : (log : List Record) → IsRun b log → IsKept log
  runs_keep log run =
      by_groups b IsKeptIf keeps (λ steps. start_kept run.course.limits) log run.course run.going run.steps

pub run_watches_kept : RunWatchesAreKept
run_watches_kept b log run = (runs_keep b log run).0

pub run_covers_answered : RunCoversAreAnswered
run_covers_answered b log x joiner level run covers =
    let sound = (runs_keep b log run).0 in
    let first = sound.first x joiner level covers in
    record {
      first = first;
      answered = λ slot watched primary.
          subst (λ d. IsAnswered (watches_of log) d slot first.cover.chain) first.joiner_is
          (sound.covers first.cover first.among slot
          (subst (λ d. IsWatched b.settings d first.cover.prefix slot) (sym first.joiner_is) watched) primary);
    }

pub run_answers_kept : RunAnswersAreKept
run_answers_kept b log run = (runs_keep b log run).1

pub run_chains_kept : RunChainsAreKept
run_chains_kept b log run = (runs_keep b log run).2

pub run_core_has : RunCoreHasAnswers
run_core_has b log number from node run among at goes_on answer there mine =
    core_has b.settings (system_of log) (watches_of log) number from node (runs_are_sound b log run) (run_answers_kept b log run) among at
    goes_on answer there mine

-- ---- each moment

pub watches_hold_at : AtEachMoment WatchesHoldIn
watches_hold_at b log m going is =
    let run = run_at_moment b log m going is in
    record {
      watches = run_watches_kept b (take m log) run;
      answers = run_answers_kept b (take m log) run;
      chains = run_chains_kept b (take m log) run;
    }

pub lawful_watches : LawfulWatchesHold
lawful_watches s log valid played m = watches_hold_at (beginning_in s) log m (lawful_logs_are_safe.runs s log valid played)
