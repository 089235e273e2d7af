-- Each lookup of a run was answered, or has one frame under way.
-- Cited above: answered_at_moments
use Rattle.std.proofs.Common.{◌≡◌, inl, inr, ℕ, ◌+◌, Bool, false, List, [], ◌∷◌, ◌++◌, All, Option, Some, arith, refl, ap, sym, subst, ◌∙◌}
use Rattle.std.specs.Prelude.{count_by}
use Rattle.tap_name.specs.Settings.{SettingsValue}
use Rattle.tap_scenario.specs.declared.step.Step.{Step}
use Rattle.tap_wire.specs.declared.frame.Frame.{Frame}
use Rattle.tap_log.specs.declared.record.Record.{Record}
use Rattle.tap_log.specs.declared.record.Record.TheVariants.{Step as StepRecord, Taken}
use Rattle.tap_history.specs.Groups.{is_ended}
use Rattle.tap_rule.specs.Event.Event.{Starts}
use Rattle.tap_safety.specs.AtRest.{system_at_rest}
use Rattle.tap_safety.specs.Move.{Move, may_move}
use Rattle.tap_safety.specs.Move.Move.{Begins, Delivers}
use Rattle.tap_safety.specs.Moved.{moved, numbered_frame, starter}
use Rattle.tap_safety.specs.System.{System}
use Rattle.tap_runs.specs.Beginning.{Beginning, IsWithinLimits, begin_record}
use Rattle.tap_runs.specs.Course.{Follows, IsCourse, MayFollow, is_choice, move_of_group, moved_by, system_of}
use Rattle.tap_runs.specs.Group.{received_records, records_of_act}
use Rattle.tap_runs.specs.Named.{HaveNames}
use Rattle.tap_runs.specs.Starts.{announced}
use Rattle.tap_runs.proofs.CourseGrows.{by_groups, grown_system, start_system}
use Rattle.tap_runs.proofs.Frames.{starting_moves, step_moves, taken_moves}
use Rattle.tap_runs.proofs.Within.{IsIdle, IsStarting, step_kind}
use Rattle.tap_safety_moves.specs.Sound.{Sound}
use Rattle.tap_safe_runs.specs.Lawful.{beginning_in}
use Rattle.tap_safe_runs.specs.SafeLogs.{OfLawfulLogs}
use Rattle.tap_safe_runs.specs.Moments.{AtEachMoment}
use Rattle.tap_safe_runs.specs.Safe.{IsRun}
use Rattle.tap_safe_runs.proofs.Lawful.{lawful_logs_are_safe}
use Rattle.tap_safe_runs.proofs.Possible.{group_may_move}
use Rattle.tap_safe_runs.proofs.Safe.{run_at_moment, runs_are_sound, steps_after, steps_before}
use Rattle.tap_pointer_runs.proofs.Runs.{idle_starts_none, run_rests}
use Rattle.tap_pointer_moves.specs.LookupFrames.{is_its_start, is_noted_in, is_of_ticket, lookup_frames, one_if}
use Rattle.tap_pointer_moves.specs.LookupAnswers.{news_of}
use Rattle.tap_pointer_moves.specs.Lookups.{LookupsGoToCore}
use Rattle.tap_pointer_moves.proofs.LookupFrames.{lookups_go_on}
use Rattle.tap_pointer_runs.specs.AnsweredOnce.{LookupsAreAnswered, answers_under, asks_under, times_answered, times_asked}
use Rattle.tap_pointer_runs.proofs.LookupsCounted.{act_answers, act_asks, all_unanswered_times, announced_asks, quiet_asks, receive_answers, receive_asks, step_answers, step_asks, taken_answers, taken_asks, times-append, times-cons}
use Rattle.tap_pointer_runs.proofs.RunAnswers.{run_looked}
use Rattle.tap_pointer_runs.proofs.Tickets.{asked_at_most_once}
use Rattle.tap_pointer_runs.proofs.Unanswered.{IsUnanswered, announced_unanswered, follow_unanswered}

-- how many of these frames are of the lookup
abbrev frames_at : ℕ → List (ℕ × Frame) → ℕ
frames_at ticket frames = count_by (λ (f : ℕ × Frame). is_of_ticket ticket f.1.body) frames

-- as often as a lookup was asked for, it was answered, or a frame of it is under way
abbrev IsBalanced : List Record → System → Type 0
IsBalanced log s = (ticket : ℕ) → times_asked ticket log ≡ times_answered ticket log + lookup_frames ticket s

-- ---- one more group

-- the group asks and answers as its move starts a lookup and notes its answer
pub record IsCounted (ticket : ℕ) (group : List Record) (asks answers : Bool) : Type 0 where
  pub asked : times_asked ticket group ≡ one_if asks
  pub answered : times_answered ticket group ≡ one_if answers

module _ (p : SettingsValue) (log : List Record) (s : System) (ticket : ℕ) where
  idle_counted : (index : ℕ) (step : Step) (items : List Record) → IsIdle log step items → All IsUnanswered items
      → IsCounted ticket (StepRecord index step ∷ items) false false
  idle_counted index step items idle none =
      let asks = times-cons (asks_under ticket) (StepRecord index step) items in
      let no_ask = ap one_if (step_asks ticket index step) in
      let unasked = quiet_asks ticket items idle.quiet in
      let answers = times-cons (answers_under ticket) (StepRecord index step) items in
      let no_answer = ap one_if (step_answers ticket index step) in
      let unanswered = all_unanswered_times ticket items none in
      record { asked = omega (arith, asks, no_ask, unasked); answered = omega (arith, answers, no_answer, unanswered) }

  starting_counted : (index : ℕ) (step : Step) (items : List Record) → (starting : IsStarting p log s step items)
      → IsCounted ticket (StepRecord index step ∷ items) (is_its_start ticket starting.start)
      (is_noted_in ticket (news_of p s (Begins starting.name starting.start)))
  starting_counted index step items starting =
      let said = announced log step in
      let node = starter p s starting.name starting.start in
      let done = records_of_act p log starting.name node (Starts starting.start) in
      let asks = times-cons (asks_under ticket) (StepRecord index step) items in
      let no_ask = ap one_if (step_asks ticket index step) in
      let are = ap (times_asked ticket) starting.are in
      let both = times-append (asks_under ticket) said done in
      let asks_first = announced_asks ticket log step starting.name starting.start starting.at in
      let asks_none = act_asks ticket p log starting.name node (Starts starting.start) in
      let answers = times-cons (answers_under ticket) (StepRecord index step) items in
      let no_answer = ap one_if (step_answers ticket index step) in
      let are_then = ap (times_answered ticket) starting.are in
      let both_then = times-append (answers_under ticket) said done in
      let answers_none = all_unanswered_times ticket said (announced_unanswered log step) in
      let notes = act_answers ticket p log starting.name node (Starts starting.start) in
      record {
        asked = omega (arith, asks, no_ask, are, both, asks_first, asks_none);
        answered = omega (arith, answers, no_answer, are_then, both_then, answers_none, notes);
      }

  taken_counted : (number : ℕ) (items : List Record) → items ≡ received_records p log s (numbered_frame number s.frames)
      → IsCounted ticket (Taken number ∷ items) false (is_noted_in ticket (news_of p s (Delivers number)))
  taken_counted number items are =
      let frame = numbered_frame number s.frames in
      let asks = times-cons (asks_under ticket) (Taken number) items in
      let no_ask = ap one_if (taken_asks ticket number) in
      let asks_none = ap (times_asked ticket) are ∙ receive_asks ticket p log s frame in
      let answers = times-cons (answers_under ticket) (Taken number) items in
      let no_answer = ap one_if (taken_answers ticket number) in
      let notes = ap (times_answered ticket) are ∙ receive_answers ticket p log s frame in
      record { asked = omega (arith, asks, no_ask, asks_none); answered = omega (arith, answers, no_answer, notes) }

module _ (p : SettingsValue) (log : List Record) (s : System) (sound : Sound p s) (cores : LookupsGoToCore s) (balanced : IsBalanced log s)
  where
    -- a group that is counted as its move goes on
    on_by : (ticket : ℕ) (group : List Record) (s' : System) (asks answers : Bool) → IsCounted ticket group asks answers
        → lookup_frames ticket s + one_if asks ≡ lookup_frames ticket s' + one_if answers
        → times_asked ticket (log ++ group) ≡ times_answered ticket (log ++ group) + lookup_frames ticket s'
    on_by ticket group s' asks answers counted on =
        let before = balanced ticket in
        let asked = counted.asked in
        let answered = counted.answered in
        let all = times-append (asks_under ticket) log group in
        let all_then = times-append (answers_under ticket) log group in
        omega (arith, before, asked, answered, all, all_then, on)

    balanced_step : (group : List Record) → MayFollow p log s group
        → ((move : Move) → move_of_group log group ≡ Some move → may_move p s move)
        → IsBalanced (log ++ group) (moved_by p s (move_of_group log group))
    unfolding MayFollow
    balanced_step (StepRecord index step ∷ items) may possible =
        let group = StepRecord index step ∷ items in
        let Now : Option Move → Type 0 = λ m. IsBalanced (log ++ group) (moved_by p s m) in
        elim (step_kind p log s index step items may) [
          | inl idle ↦
              elim (follow_unanswered p log s index step items (is_choice step) refl may) [
                | inl none ↦
                    subst Now (sym (step_moves log index step items ∙ idle.still))
                    (λ ticket. on_by ticket group s false false (idle_counted p log s ticket index step items idle none) refl)
                | inr starts ↦ absurd (idle_starts_none log step items idle starts)
              ]
          | inr starting ↦
              let move = Begins starting.name starting.start in
              let moves = starting_moves p log s index step items starting in
              subst Now (sym moves)
              (λ ticket. on_by ticket group (moved p s move) _ _ (starting_counted p log s ticket index step items starting)
              (lookups_go_on p s move ticket (possible move moves) sound cores))
        ]
    balanced_step (Taken number ∷ items) may possible =
        let group = Taken number ∷ items in
        let moves = taken_moves log number items in
        subst (λ m. IsBalanced (log ++ group) (moved_by p s m)) (sym moves)
        (λ ticket. on_by ticket group (moved p s (Delivers number)) _ _ (taken_counted p log s ticket number items may.are)
        (lookups_go_on p s (Delivers number) ticket (possible (Delivers number) moves) sound cores))
    balanced_step group may possible = absurd may

-- ---- all groups

module _ (b : Beginning) where
  abbrev IsBalancedIf : List Record → Type 0
  IsBalancedIf log = HaveNames b.settings log → IsBalanced log (system_of log)

  grows : (log group : List Record) → IsCourse b log → is_ended log ≡ false → Follows b log group → IsBalancedIf log
      → IsBalancedIf (log ++ group)
  grows log group course going follows before steps =
      let earlier = steps_before b.settings log group steps in
      let run : IsRun b log = record { course = course; going = going; steps = earlier } in
      let sound = runs_are_sound b log run in
      subst (IsBalanced (log ++ group)) (sym (grown_system b log group course going follows))
      (balanced_step b.settings log (system_of log) sound (run_looked b log run).core (before earlier) group follows.may
      (λ move is.
      group_may_move b log group move course going sound.invariant.basis follows (steps_after b.settings log group steps) is))

  begins : IsWithinLimits b → IsBalanced (begin_record b ∷ []) (system_at_rest b.settings b.members)
  unfolding asks_under answers_under
  begins limits ticket = refl

  run_balanced : (log : List Record) → IsRun b log → IsBalanced log (system_of log)
  run_balanced log run =
      by_groups b IsBalancedIf grows
      (λ steps. subst (IsBalanced (begin_record b ∷ [])) (sym (start_system b)) (begins run.course.limits)) log run.course run.going run.steps

-- ---- each moment

module _ (b : Beginning) (log : List Record) (run : IsRun b log) where
  run_answered : LookupsAreAnswered b.settings log
  run_answered = record {
    asked = asked_at_most_once b log run;
    answered = λ ticket. let balanced = run_balanced b log run ticket in omega (arith, balanced);
    rest = λ rest ticket.
        let balanced = run_balanced b log run ticket in
        let none : lookup_frames ticket (system_of log) ≡ 0 = ap (frames_at ticket) (run_rests b log run rest) in
        omega (arith, balanced, none);
  }

pub answered_at_moments : AtEachMoment LookupsAreAnswered
answered_at_moments b log m run is = run_answered b _ (run_at_moment b log m run is)

pub lawful_answered : OfLawfulLogs LookupsAreAnswered
lawful_answered s log valid played m = answered_at_moments (beginning_in s) log m (lawful_logs_are_safe.runs s log valid played)
