-- The whole invariant holds of the system of each run, and each moment of a run is one.
-- Cited above: run_at_moment, run_begins, run_more, runs_are_sound, runs_grow, steps_after, steps_before
use Rattle.std.proofs.Common.{◌≡◌, ℕ, false, true, List, [], ◌∷◌, ◌++◌, take, Option, None, Some, refl, sym, subst}
use Rattle.std.specs.Prelude.{All, drop}
use Rattle.std.proofs.lemmas.List.{take-append-drop}
use Rattle.std.proofs.lemmas.List.Elements.{All-append, All-cons, All-head, All-nil, All-tail, filter_map-append}
use Rattle.tap_name.specs.Settings.{SettingsValue}
use Rattle.tap_log.specs.declared.record.Record.{Record}
use Rattle.tap_log.specs.Kinds.{step_of}
use Rattle.tap_log.specs.Log.{begun_steps}
use Rattle.tap_history.specs.Groups.{ends_log, is_ended}
use Rattle.tap_history.specs.Moments.{is_moment}
use Rattle.tap_safety.specs.Move.{Move}
use Rattle.tap_runs.specs.Named.{HasNames, HaveNames}
use Rattle.tap_runs.specs.Beginning.{Beginning, IsWithinLimits, begin_record}
use Rattle.tap_runs.specs.Course.{Follows, IsCourse, move_of_group, moved_by, system_of}
use Rattle.tap_runs.proofs.CourseGrows.{by_groups, course_grows_holds, grown_system, start_system}
use Rattle.tap_safety_moves.specs.Sound.{Sound}
use Rattle.tap_safety_moves.proofs.Members.{sound_at_rest}
use Rattle.tap_safety_moves.proofs.SoundMoves.{move_keeps}
use Rattle.tap_safe_runs.specs.Safe.{IsRun, RunsAreSound, RunsGrow}
use Rattle.tap_safe_runs.proofs.Possible.{group_may_move}

-- ---- the steps of a part of a log

module _ {X : Type 0} (P : X → Type 0) where
  -- what holds of a list holds of its first part
  All-before : (xs ys : List X) → All P (xs ++ ys) → All P xs
  All-before [] ys all = All-nil P
  All-before (x ∷ xs) ys all = All-cons P x xs (All-head P x (xs ++ ys) all) (All-before xs ys (All-tail P x (xs ++ ys) all))

  -- and of its second part
  All-after : (xs ys : List X) → All P (xs ++ ys) → All P ys
  All-after [] ys all = all
  All-after (x ∷ xs) ys all = All-after xs ys (All-tail P x (xs ++ ys) all)

module _ (p : SettingsValue) (log more : List Record) (steps : HaveNames p (log ++ more)) where
  -- the steps of a log and of what follows
  both_steps : All (HasNames p) (begun_steps log ++ begun_steps more)
  both_steps = subst (All (HasNames p)) (filter_map-append step_of log more) steps

  -- so those of the log are of the settings
  pub steps_before : HaveNames p log
  steps_before = All-before (HasNames p) (begun_steps log) (begun_steps more) both_steps

  -- and those of what follows
  pub steps_after : HaveNames p more
  steps_after = All-after (HasNames p) (begun_steps log) (begun_steps more) both_steps

-- ---- one more group

module _ (b : Beginning) where
  -- the system of a log is sound, if the log's steps have names of the settings
  abbrev IsSoundIf : List Record → Type 0
  IsSoundIf log = HaveNames b.settings log → Sound b.settings (system_of log)

  module _ (log group : List Record) (course : IsCourse b log) (going : is_ended log ≡ false) (follows : Follows b log group)
      (steps : HaveNames b.settings group) (sound : Sound b.settings (system_of log)) where
    -- the move of the group keeps the whole invariant, if it makes one
    moved_sound : (move : Option Move) → move_of_group log group ≡ move → Sound b.settings (moved_by b.settings (system_of log) move)
    moved_sound None is = sound
    moved_sound (Some move) is =
        move_keeps b.settings (system_of log) move
        (group_may_move b log group move course going sound.invariant.basis follows steps is) sound

  -- one more group of a course
  sound_grows : (log group : List Record) → IsCourse b log → is_ended log ≡ false → Follows b log group → IsSoundIf log
      → IsSoundIf (log ++ group)
  sound_grows log group course going follows sound steps =
      subst (Sound b.settings) (sym (grown_system b log group course going follows))
      (moved_sound log group course going follows (steps_after b.settings log group steps) (sound (steps_before b.settings log group steps))
      (move_of_group log group) refl)

-- so it is in each run
pub runs_are_sound : RunsAreSound
runs_are_sound b log run =
    let members = course_grows_holds.members b run.course.limits in
    let at_rest : Sound b.settings (system_of (begin_record b ∷ [])) =
    subst (Sound b.settings) (sym (start_system b)) (sound_at_rest b.settings b.members members) in
    by_groups b (IsSoundIf b) (sound_grows b) (λ steps. at_rest) log run.course run.going run.steps

-- ---- runs

-- the beginning alone hasn't ended
begins_going : (b : Beginning) → is_ended (begin_record b ∷ []) ≡ false
unfolding ends_log
begins_going b = refl

-- the beginning alone is a run
pub run_begins : (b : Beginning) → IsWithinLimits b → IsRun b (begin_record b ∷ [])
run_begins b limits = record {
  course = course_grows_holds.starts b limits;
  going = begins_going b;
  steps = All-nil (HasNames b.settings);
}

-- and so is a run with one more group
pub run_more : (b : Beginning) (log group : List Record) → IsRun b log → Follows b log group → HaveNames b.settings group
    → IsRun b (log ++ group)
run_more b log group run follows steps = record {
  course = course_grows_holds.course b log group run.course run.going follows;
  going = course_grows_holds.going b log group run.course run.going follows;
  steps =
      subst (All (HasNames b.settings)) (sym (filter_map-append step_of log group))
      (All-append (HasNames b.settings) (begun_steps log) (begun_steps group) run.steps steps);
}

-- and a run at one of its moments
pub run_at_moment : (b : Beginning) (log : List Record) (m : ℕ) → IsRun b log → is_moment log m ≡ true → IsRun b (take m log)
run_at_moment b log m run is =
    let at = course_grows_holds.moments b log run.course run.going m is in
    record {
      course = at.0;
      going = at.1;
      steps = steps_before b.settings (take m log) (drop m log) (subst (HaveNames b.settings) (sym (take-append-drop m log)) run.steps);
    }

pub runs_grow : RunsGrow
runs_grow = record { begins = run_begins; more = run_more; moments = run_at_moment }
