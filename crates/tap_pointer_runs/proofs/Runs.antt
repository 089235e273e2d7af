-- Pointers at each moment of a run.
-- Cited above: on_paths_at, run_grown
use Rattle.std.proofs.Common.{◌≡◌, inl, inr, ℕ, ◌≤◌, true, false, not, List, [], ◌∷◌, ◌++◌, length, take, All, Option, None, Some, refl, ap, sym, subst, ◌∙◌}
use Rattle.std.specs.Prelude.{◌&&◌, ◌||◌}
use Rattle.std.proofs.lemmas.Bool.{and_parts}
use Rattle.std.proofs.lemmas.List.Elements.{All-nil}
use Rattle.tap_name.specs.Settings.{SettingsValue}
use Rattle.tap_pointer.specs.declared.pair.Pair.{Pair}
use Rattle.tap_scenario.specs.declared.step.Step.{Step}
use Rattle.tap_wire.specs.declared.frame.Frame.{Frame}
use Rattle.tap_log.specs.Kinds.{is_carried}
use Rattle.tap_log.specs.declared.record.Record.{Record}
use Rattle.tap_log.specs.declared.record.Record.TheVariants.{Step as StepRecord, Taken}
use Rattle.tap_history.specs.Groups.{is_ended}
use Rattle.tap_history.specs.Moments.{awaiting, is_none, is_rest, is_still, under_way}
use Rattle.tap_history.specs.Published.{has_pair}
use Rattle.tap_history.specs.Refusals.{first_refusal}
use Rattle.tap_history.proofs.RecordChanges.{record_changes_hold}
use Rattle.tap_rule.specs.Event.Event.{Takes}
use Rattle.tap_rule.specs.Node.{NodeState}
use Rattle.tap_safety.specs.AtRest.{system_at_rest}
use Rattle.tap_safety.specs.Move.{Move, may_move}
use Rattle.tap_safety.specs.Move.Move.{Begins, Delivers}
use Rattle.tap_safety.specs.Moved.{numbered_frame}
use Rattle.tap_safety.specs.System.{System}
use Rattle.tap_runs.specs.Beginning.{Beginning, IsWithinLimits, begin_record}
use Rattle.tap_runs.specs.Course.{Follows, IsCourse, MayFollow, is_choice, move_of_group, move_of_start, moved_by, system_of}
use Rattle.tap_runs.specs.Group.{received_records, start_at}
use Rattle.tap_runs.specs.CourseLaws.{frame_numbers}
use Rattle.tap_runs.specs.Named.{HaveNames}
use Rattle.tap_runs.specs.Observed.{pair_line}
use Rattle.tap_runs.proofs.Frames.{course_frames_holds, starting_moves, step_moves, taken_moves}
use Rattle.tap_runs.proofs.CourseGrows.{by_groups, course_grows_holds, grown_system, start_system, starts_begun, starts_uncarried}
use Rattle.tap_runs.proofs.Within.{IsIdle, step_kind, step_within, taken_within}
use Rattle.tap_safety_moves.specs.Sound.{Sound}
use Rattle.tap_safety_moves.proofs.Members.{node_is_member}
use Rattle.tap_safe_runs.specs.Lawful.{beginning_in}
use Rattle.tap_safe_runs.specs.SafeLogs.{OfLawfulLogs}
use Rattle.tap_safe_runs.specs.Moments.{AtEachMoment}
use Rattle.tap_safe_runs.specs.Safe.{IsRun}
use Rattle.tap_safe_runs.proofs.Lawful.{lawful_logs_are_safe}
use Rattle.tap_safe_runs.proofs.Possible.{group_may_move}
use Rattle.tap_safe_runs.proofs.Safe.{run_at_moment, runs_are_sound, steps_after, steps_before}
use Rattle.tap_pointer_moves.specs.Paths.{IsPublished}
use Rattle.tap_pointer_moves.specs.Publications.{is_served, publishes_in}
use Rattle.tap_pointer_moves.proofs.Ever.{ever_at_rest}
use Rattle.tap_pointer_moves.proofs.PointersKept.{pointers_at_rest}
use Rattle.tap_pointer_moves.proofs.Paths.{pointers_on_paths}
use Rattle.tap_pointer_moves.proofs.PointerRules.{nothing_published}
use Rattle.tap_pointer_runs.specs.Paths.{KnownWerePublished, PointersOnTheirPaths, PointersStandIn, PublishedAreServed, was_published}
use Rattle.tap_pointer_runs.proofs.ServersGrow.{Grown, idle_grown, starting_grown, taken_grown}
use Rattle.tap_pointer_runs.proofs.Unpaired.{IsUnpaired, StartsSome, act_unpaired, follow_unpaired}

-- ---- one more group

-- an idle step starts nothing
pub idle_starts_none : (log : List Record) (step : Step) (items : List Record) → IsIdle log step items → StartsSome log step → ⊥
idle_starts_none log step items idle starts =
    let what = starts.1.0 in
    let moves : move_of_start (first_refusal log step) (start_at log step) ≡ Some (Begins what.0 what.1) =
    ap (λ r. move_of_start r (start_at log step)) starts.0 ∙ ap (move_of_start None) starts.1.1 in
    let wrong : ◌≡◌ {A = Option Move} None (Some (Begins what.0 what.1)) = sym idle.still ∙ moves in
    cc

received_unpaired : (p : SettingsValue) (before : List Record) (s : System) (frame : Option Frame)
    → All IsUnpaired (received_records p before s frame)
received_unpaired p before s None = All-nil IsUnpaired
received_unpaired p before s (Some frame) = act_unpaired p before frame.to (s.node frame.to) (Takes frame)

module _ (p : SettingsValue) (log : List Record) (s : System) (grown : Grown log s) (uncarried : is_carried log ≡ false)
    (begun : 1 ≤ length log) (sound : Sound p s) where
  grown_step : (group : List Record) → MayFollow p log s group
      → ((move : Move) → move_of_group log group ≡ Some move → may_move p s move)
      → Grown (log ++ group) (moved_by p s (move_of_group log group))
  unfolding MayFollow
  grown_step (StepRecord index step ∷ items) may possible =
      let within = step_within p log s index step items may in
      let Now : Option Move → Type 0 = λ m. Grown (log ++ StepRecord index step ∷ items) (moved_by p s m) in
      elim (step_kind p log s index step items may) [
        | inl idle ↦
            elim (follow_unpaired p log s index step items (is_choice step) refl may) [
              | inl none ↦
                  subst Now (sym (step_moves log index step items ∙ idle.still))
                  (idle_grown p log s grown uncarried begun sound index step items within idle none)
              | inr starts ↦ absurd (idle_starts_none log step items idle starts)
            ]
        | inr starting ↦
            let moves = starting_moves p log s index step items starting in
            subst Now (sym moves)
            (starting_grown p log s grown uncarried begun sound index step items within starting
            (possible (Begins starting.name starting.start) moves))
      ]
  grown_step (Taken number ∷ items) may possible =
      let within = taken_within p log s number items may in
      let moves = taken_moves log number items in
      let none : All IsUnpaired items = subst (All IsUnpaired) (sym may.are) (received_unpaired p log s (numbered_frame number s.frames)) in
      subst (λ m. Grown (log ++ Taken number ∷ items) (moved_by p s m)) (sym moves)
      (taken_grown p log s grown uncarried begun sound number items within none (possible (Delivers number) moves))
  grown_step group may possible = absurd may

-- ---- all groups

module _ (b : Beginning) where
  abbrev IsGrownIf : List Record → Type 0
  IsGrownIf log = HaveNames b.settings log → Grown log (system_of log)

  grows : (log group : List Record) → IsCourse b log → is_ended log ≡ false → Follows b log group → IsGrownIf log → IsGrownIf (log ++ group)
  grows log group course going follows before steps =
      let earlier = steps_before b.settings log group steps in
      let sound = runs_are_sound b log (record { course = course; going = going; steps = earlier }) in
      subst (Grown (log ++ group)) (sym (grown_system b log group course going follows))
      (grown_step b.settings log (system_of log) (before earlier) (starts_uncarried log (begin_record b) course.begins)
      (starts_begun log (begin_record b) course.begins) sound group follows.may
      (λ move is.
      group_may_move b log group move course going sound.invariant.basis follows (steps_after b.settings log group steps) is))

  -- the members serve nothing
  none_served : (pair : Pair) → is_served (system_at_rest b.settings b.members) pair ≡ false
  none_served pair = by_node ((system_at_rest b.settings b.members).node pair.server) refl
    where
      by_node : (node : Option NodeState) → (system_at_rest b.settings b.members).node pair.server ≡ node
          → publishes_in ((system_at_rest b.settings b.members).node pair.server) pair ≡ false
      by_node None is = ap (λ n. publishes_in n pair) is
      by_node (Some node) is =
          let member = node_is_member b.settings b.members pair.server node is in
          let none : node.pointers.pairs ≡ [] = ap (λ (n : NodeState). n.pointers.pairs) member.1 in
          ap (λ n. publishes_in n pair) is ∙ nothing_published node.pointers none pair

  begins : IsWithinLimits b → Grown (begin_record b ∷ []) (system_at_rest b.settings b.members)
  begins limits = record {
    stand = pointers_at_rest b.settings b.members (course_grows_holds.members b limits);
    agree = λ pair.
        ap (λ l. has_pair l (pair_line pair)) (record_changes_hold.begins b.settings b.frames b.members).published
        ∙ sym (none_served pair);
    departed = λ x left. let wrong : false ≡ true = left in absurd (cc);
    ever =
        ever_at_rest b.settings b.members (was_published (begin_record b ∷ [])) (course_grows_holds.members b limits);
  }

  -- so it is in each run
  pub run_grown : (log : List Record) → IsRun b log → Grown log (system_of log)
  run_grown log run =
      by_groups b IsGrownIf grows
      (λ steps. subst (Grown (begin_record b ∷ [])) (sym (start_system b)) (begins run.course.limits)) log run.course run.going run.steps

-- ---- at rest

no_frames : (frames : List (ℕ × Frame)) → is_none (frame_numbers frames) ≡ true → frames ≡ []
no_frames [] none = refl
no_frames (f ∷ frames) none = let wrong : false ≡ true = none in absurd (cc)

-- a pair is served exactly if its server publishes its object
pub served_is : (s : System) (pair : Pair) → is_served s pair ≡ true → IsPublished s pair
served_is s pair served = by_node (s.node pair.server) refl
  where
    by_node : (node : Option NodeState) → s.node pair.server ≡ node → IsPublished s pair
    by_node None is = let wrong : false ≡ true = sym (ap (λ n. publishes_in n pair) is) ∙ served in absurd (cc)
    by_node (Some node) is = record { state = node; is = is; published = sym (ap (λ n. publishes_in n pair) is) ∙ served }

is_served_if : (s : System) (pair : Pair) → IsPublished s pair → is_served s pair ≡ true
is_served_if s pair published = ap (λ n. publishes_in n pair) published.is ∙ published.published

module _ (b : Beginning) (log : List Record) (run : IsRun b log) where
  pub run_rests : is_rest log ≡ true → (system_of log).frames ≡ []
  run_rests rest =
      let still = (and_parts (is_still log) (not (is_carried log) || (is_none (under_way log) && is_none (awaiting log))) rest).0 in
      let frames = course_frames_holds b log run.course run.going in
      no_frames (system_of log).frames (ap is_none frames.numbers ∙ still)

  run_on_paths : PointersOnTheirPaths b.settings log
  run_on_paths rest x pair =
      let s = system_of log in
      let grown = run_grown b log run in
      let law = pointers_on_paths b.settings s x pair (runs_are_sound b log run) grown.stand (run_rests rest) in (
        λ holds.
            let both = law.0 holds in
            (grown.agree pair ∙ is_served_if s pair both.0, both.1),
        λ (published, on_path). law.1 (served_is s pair (sym (grown.agree pair) ∙ published), on_path),
      )

-- ---- each moment

pub stand_at : AtEachMoment PointersStandIn
stand_at b log m run is = (run_grown b (take m log) (run_at_moment b log m run is)).stand

pub served_at : AtEachMoment PublishedAreServed
served_at b log m run is = (run_grown b (take m log) (run_at_moment b log m run is)).agree

pub known_at : AtEachMoment KnownWerePublished
known_at b log m run is = (run_grown b (take m log) (run_at_moment b log m run is)).ever

pub on_paths_at : AtEachMoment PointersOnTheirPaths
on_paths_at b log m run is = run_on_paths b (take m log) (run_at_moment b log m run is)

-- ---- lawful logs

pub lawful_on_paths : OfLawfulLogs PointersOnTheirPaths
lawful_on_paths s log valid played m = on_paths_at (beginning_in s) log m (lawful_logs_are_safe.runs s log valid played)

pub lawful_served : OfLawfulLogs PublishedAreServed
lawful_served s log valid played m = served_at (beginning_in s) log m (lawful_logs_are_safe.runs s log valid played)
