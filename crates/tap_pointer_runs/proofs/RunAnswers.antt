-- The answers of a run, and the lookups that are under way in it.
-- Cited above: answers_at
use Rattle.std.proofs.Common.{◌≡◌, inl, inr, ℕ, false, true, List, [], ◌∷◌, ◌++◌, length, All, Option, Some, append_assoc, refl, ap, sym, subst, ◌∙◌}
use Rattle.std.specs.Prelude.{◌&&◌, ◌||◌, nat_eq}
use Rattle.std.specs.Cmp.Lexicographic.{pointwise}
use Rattle.std.proofs.Math.Bool.{or-true}
use Rattle.std.proofs.lemmas.Bool.{eq-eqb}
use Rattle.std.proofs.lemmas.List.Folds.{list_any-append}
use Rattle.std.proofs.lemmas.Slice.Eq.{bytes_eq-Decides}
use Rattle.tap_name.specs.Settings.{SettingsValue}
use Rattle.tap_scenario.specs.declared.step.Step.{Step}
use Rattle.tap_scenario.specs.declared.step.Step.TheVariants.{Abandon, Cast, Depart, Find, Join, Publish, Withdraw}
use Rattle.tap_log.specs.declared.record.Record.{Record}
use Rattle.tap_log.specs.declared.record.Record.TheVariants.{Asked, Step as StepRecord, Taken}
use Rattle.tap_history.specs.Groups.{is_ended}
use Rattle.tap_history.specs.StepAsks.{actor_of}
use Rattle.tap_rule.specs.Event.{Start}
use Rattle.tap_rule.specs.Event.Event.{Starts}
use Rattle.tap_rule.specs.Event.Start.{Abandon as StartAbandon, Cast as StartCast, Find as StartFind, Join as StartJoin, Leave as StartLeave, Publish as StartPublish, Withdraw as StartWithdraw}
use Rattle.tap_safety.specs.AtRest.{system_at_rest}
use Rattle.tap_safety.specs.Move.{Move, may_move}
use Rattle.tap_safety.specs.Move.Move.{Begins, Delivers}
use Rattle.tap_safety.specs.Moved.{moved, numbered_frame, starter}
use Rattle.tap_safety.specs.System.{System}
use Rattle.tap_runs.specs.Beginning.{Beginning, IsWithinLimits, begin_record}
use Rattle.tap_runs.specs.Course.{Follows, IsCourse, MayFollow, is_choice, move_of_group, moved_by, system_of}
use Rattle.tap_runs.specs.Group.{received_records, records_of_act, start_at}
use Rattle.tap_runs.specs.Named.{HaveNames}
use Rattle.tap_runs.specs.Starts.{announced, next_cast, next_ticket, start_of_step}
use Rattle.tap_runs.proofs.Frames.{starting_moves, step_moves, taken_moves}
use Rattle.tap_runs.proofs.CourseGrows.{by_groups, course_grows_holds, grown_system, start_system}
use Rattle.tap_runs.proofs.Nodes.{name_at, start_in}
use Rattle.tap_runs.proofs.Within.{IsStarting, step_kind}
use Rattle.tap_safety_moves.specs.Sound.{Sound}
use Rattle.tap_safe_runs.specs.Lawful.{beginning_in}
use Rattle.tap_safe_runs.specs.SafeLogs.{OfLawfulLogs}
use Rattle.tap_safe_runs.specs.Moments.{AtEachMoment}
use Rattle.tap_safe_runs.specs.Safe.{IsRun}
use Rattle.tap_safe_runs.proofs.Lawful.{lawful_logs_are_safe}
use Rattle.tap_safe_runs.proofs.Possible.{group_may_move}
use Rattle.tap_safe_runs.proofs.Safe.{run_at_moment, runs_are_sound, steps_after, steps_before}
use Rattle.tap_pointer_moves.specs.Ever.{AreOfPublished}
use Rattle.tap_pointer_moves.specs.LaysTold.{PointersStand}
use Rattle.tap_pointer_runs.specs.Paths.{was_published}
use Rattle.tap_pointer_runs.proofs.ServersGrow.{ever_grows}
use Rattle.tap_pointer_runs.proofs.Runs.{idle_starts_none, run_grown}
use Rattle.tap_pointer_moves.specs.LookupAnswers.{IsAskedFor, LookupsAreOf}
use Rattle.tap_pointer_moves.specs.Lookups.{LookupsGoToCore}
use Rattle.tap_pointer_moves.proofs.LookupAnswers.{lookups_stay_of, no_lookups_at_rest, noted_answers_are_of}
use Rattle.tap_pointer_moves.proofs.LookupsKept.{lookups_at_rest, lookups_kept}
use Rattle.tap_pointer_runs.specs.LookupAnswers.{AnswersWerePublished, LookupsGoToCoreIn, asks_for, was_asked}
use Rattle.tap_pointer_runs.proofs.LookupsGrow.{AnswerHolds, EachHolds, act_all, all_unanswered, each_all, each_append, each_split, lookups_grow, receive_all, unanswered_holds}
use Rattle.tap_pointer_runs.proofs.Unanswered.{IsUnanswered, announced_unanswered, follow_unanswered}

-- what is so of lookups after a log: where they go, what they say, and what the log has answered
pub record Looked (log : List Record) (s : System) : Type 0 where
  pub core : LookupsGoToCore s
  pub are : LookupsAreOf (was_asked log) (was_published log) s
  pub each : EachHolds [] log

-- ---- one more group

no_lookup : {A : Type 0} (kind start : Start) (ticket : ℕ) (object : List ℕ) → kind ≡ start → start ≡ StartFind ticket object
    → (kind ≡ StartFind ticket object → ⊥) → A
no_lookup kind start ticket object at is never = absurd (never (at ∙ is))

-- the step that starts a lookup, and the number of its ticket
pub record IsFindStep (log : List Record) (step : Step) (name : List ℕ) (ticket : ℕ) (object : List ℕ) : Type 0 where
  pub is : step ≡ Find object name
  pub next : next_ticket log ≡ ticket

pub find_step : (log : List Record) (step : Step) (name : List ℕ) (start : Start) → start_at log step ≡ Some (name, start) → (ticket : ℕ)
    (object : List ℕ) → start ≡ StartFind ticket object → IsFindStep log step name ticket object
unfolding actor_of start_of_step
find_step log (Find sought asker) name start at ticket object is =
    let both : StartFind (next_ticket log) sought ≡ StartFind ticket object = ap (start_in (StartFind (next_ticket log) sought)) at ∙ is in
    let objects : sought ≡ object = cc in
    let names : asker ≡ name = ap name_at at in
    record { is = ap (λ o. Find o asker) objects ∙ ap (Find object) names; next = cc }
find_step log (Join newcomer via) name start at ticket object is =
    no_lookup (StartJoin via) start ticket object (ap (start_in (StartJoin via)) at) is (λ same. cc)
find_step log (Depart node) name start at ticket object is =
    no_lookup (StartLeave) start ticket object (ap (start_in (StartLeave)) at) is (λ same. cc)
find_step log (Publish sought server) name start at ticket object is =
    no_lookup (StartPublish sought) start ticket object (ap (start_in (StartPublish sought)) at) is (λ same. cc)
find_step log (Withdraw sought server) name start at ticket object is =
    no_lookup (StartWithdraw sought) start ticket object (ap (start_in (StartWithdraw sought)) at) is (λ same. cc)
find_step log (Abandon node) name start at ticket object is =
    no_lookup (StartAbandon) start ticket object (ap (start_in (StartAbandon)) at) is (λ same. cc)
find_step log (Cast word prefix asker) name start at ticket object is =
    no_lookup (StartCast (next_cast log) (length prefix) word) start ticket object (ap (start_in (StartCast (next_cast log) (length prefix) word)) at) is (λ same. cc)
find_step log step name start at ticket object is = absurd (cc)

-- what is said of it first
pub finds_asked : (log : List Record) (step : Step) (name : List ℕ) (ticket : ℕ) (object : List ℕ) → IsFindStep log step name ticket object
    → announced log step ≡ Asked ticket object name ∷ []
unfolding announced
finds_asked log step name ticket object finds =
    ap (announced log) finds.is ∙ ap (λ n. Asked n object name ∷ []) finds.next

-- a lookup that is started is asked for first
pub asked_first : (log : List Record) (index : ℕ) (step : Step) (name : List ℕ) (start : Start) → start_at log step ≡ Some (name, start)
    → (ticket : ℕ) (object : List ℕ) → start ≡ StartFind ticket object
    → was_asked (log ++ StepRecord index step ∷ announced log step) ticket object ≡ true
asked_first log index step name start at ticket object is =
    let finds = find_step log step name start at ticket object is in
    let asks : asks_for (Asked ticket object name) ticket object ≡ true =
    ap (λ b. b && pointwise nat_eq object object) (eq-eqb ticket ticket refl) ∙ (bytes_eq-Decides object object).1 refl in
    ap (λ l. was_asked (log ++ StepRecord index step ∷ l) ticket object) (finds_asked log step name ticket object finds)
    ∙ list_any-append (λ item. asks_for item ticket object) log (StepRecord index step ∷ Asked ticket object name ∷ [])
    ∙ ap (λ b. was_asked log ticket object || (b || false)) asks ∙ or-true (was_asked log ticket object)

module _ (p : SettingsValue) (log : List Record) (s : System) (looked : Looked log s) (sound : Sound p s) (stand : PointersStand s)
    (ever : AreOfPublished (was_published log) s) where
  taken_looked : (number : ℕ) (items : List Record) → items ≡ received_records p log s (numbered_frame number s.frames)
      → may_move p s (Delivers number) → Looked (log ++ Taken number ∷ items) (moved p s (Delivers number))
  taken_looked number items are may =
      let told : List Record = log ++ Taken number ∷ [] in
      let now = lookups_grow log (Taken number ∷ []) s looked.are in
      let known = ever_grows log (Taken number ∷ []) s ever in
      let asks : IsAskedFor (was_asked told) (Delivers number) =
      λ x ticket object is. let wrong : Delivers number ≡ Begins x (StartFind ticket object) = is in absurd (cc) in
      let holds : All (AnswerHolds told) items =
      subst (All (AnswerHolds told)) (sym are)
      (receive_all (AnswerHolds told) (unanswered_holds told) p log s (numbered_frame number s.frames) (λ ticket server noted.
      noted_answers_are_of p s (Delivers number) (was_asked told) (was_published told) may sound stand known asks now ticket server
      noted)) in
      let later = lookups_stay_of p s (Delivers number) (was_asked told) (was_published told) may sound stand known asks now in
      record {
        core = lookups_kept p s (Delivers number) may sound looked.core;
        are =
            subst (λ l. LookupsAreOf (was_asked l) (was_published l) (moved p s (Delivers number))) (append_assoc log (Taken number ∷ []) items)
            (lookups_grow told items (moved p s (Delivers number)) later);
        each = each_append [] log (Taken number ∷ items) looked.each (tt, each_all told items holds);
      }

  idle_looked : (index : ℕ) (step : Step) (items : List Record) → All IsUnanswered items
      → Looked (log ++ StepRecord index step ∷ items) s
  idle_looked index step items none = record {
    core = looked.core;
    are = lookups_grow log (StepRecord index step ∷ items) s looked.are;
    each =
        each_append [] log (StepRecord index step ∷ items) looked.each
        (tt, each_all (log ++ StepRecord index step ∷ []) items (all_unanswered (log ++ StepRecord index step ∷ []) items none));
  }

  starting_looked : (index : ℕ) (step : Step) (items : List Record) → (starting : IsStarting p log s step items)
      → may_move p s (Begins starting.name starting.start)
      → Looked (log ++ StepRecord index step ∷ items) (moved p s (Begins starting.name starting.start))
  starting_looked index step items starting may =
      let move = Begins starting.name starting.start in
      let first : List Record = log ++ StepRecord index step ∷ [] in
      let said = announced log step in
      let more : List Record = StepRecord index step ∷ announced log step in
      let told : List Record = log ++ more in
      let node = starter p s starting.name starting.start in
      let done = records_of_act p log starting.name node (Starts starting.start) in
      let now = lookups_grow log more s looked.are in
      let known = ever_grows log more s ever in
      let asks : IsAskedFor (was_asked told) move =
      λ x ticket object is.
      let start_is : starting.start ≡ StartFind ticket object = cc in
      asked_first log index step starting.name starting.start starting.at ticket object start_is in
      let holds : All (AnswerHolds told) done =
      act_all (AnswerHolds told) (unanswered_holds told) p log starting.name node (Starts starting.start) (λ ticket server noted.
      noted_answers_are_of p s move (was_asked told) (was_published told) may sound stand known asks now ticket server noted) in
      let later = lookups_stay_of p s move (was_asked told) (was_published told) may sound stand known asks now in
      let together : told ++ done ≡ log ++ StepRecord index step ∷ items =
      append_assoc log more done ∙ ap (λ l. log ++ StepRecord index step ∷ l) (sym starting.are) in
      record {
        core = lookups_kept p s move may sound looked.core;
        are =
            subst (λ l. LookupsAreOf (was_asked l) (was_published l) (moved p s move)) together
            (lookups_grow told done (moved p s move) later);
        each =
            subst (EachHolds []) together
            (each_append [] told done
            (each_append [] log more looked.each (tt, each_all first said (all_unanswered first said (announced_unanswered log step))))
            (each_all told done holds));
      }

  looked_step : (group : List Record) → MayFollow p log s group
      → ((move : Move) → move_of_group log group ≡ Some move → may_move p s move)
      → Looked (log ++ group) (moved_by p s (move_of_group log group))
  unfolding MayFollow
  looked_step (StepRecord index step ∷ items) may possible =
      let Now : Option Move → Type 0 = λ m. Looked (log ++ StepRecord index step ∷ items) (moved_by p s m) in
      elim (step_kind p log s index step items may) [
        | inl idle ↦
            elim (follow_unanswered p log s index step items (is_choice step) refl may) [
              | inl none ↦
                  subst Now (sym (step_moves log index step items ∙ idle.still)) (idle_looked index step items none)
              | inr starts ↦ absurd (idle_starts_none log step items idle starts)
            ]
        | inr starting ↦
            let moves = starting_moves p log s index step items starting in
            subst Now (sym moves)
            (starting_looked index step items starting (possible (Begins starting.name starting.start) moves))
      ]
  looked_step (Taken number ∷ items) may possible =
      let moves = taken_moves log number items in
      subst (λ m. Looked (log ++ Taken number ∷ items) (moved_by p s m)) (sym moves)
      (taken_looked number items may.are (possible (Delivers number) moves))
  looked_step group may possible = absurd may

-- ---- all groups

module _ (b : Beginning) where
  abbrev IsLookedIf : List Record → Type 0
  IsLookedIf log = HaveNames b.settings log → Looked log (system_of log)

  grows : (log group : List Record) → IsCourse b log → is_ended log ≡ false → Follows b log group → IsLookedIf log
      → IsLookedIf (log ++ group)
  grows log group course going follows before steps =
      let earlier = steps_before b.settings log group steps in
      let run : IsRun b log = record { course = course; going = going; steps = earlier } in
      let sound = runs_are_sound b log run in
      let grown = run_grown b log run in
      subst (Looked (log ++ group)) (sym (grown_system b log group course going follows))
      (looked_step b.settings log (system_of log) (before earlier) sound grown.stand grown.ever group follows.may
      (λ move is.
      group_may_move b log group move course going sound.invariant.basis follows (steps_after b.settings log group steps) is))

  begins : IsWithinLimits b → Looked (begin_record b ∷ []) (system_at_rest b.settings b.members)
  begins limits =
      let members = course_grows_holds.members b limits in
      record {
        core = lookups_at_rest b.settings b.members members;
        are =
            no_lookups_at_rest b.settings b.members (was_asked (begin_record b ∷ [])) (was_published (begin_record b ∷ [])) members;
        each = (tt, tt);
      }

  -- so it is in each run
  pub run_looked : (log : List Record) → IsRun b log → Looked log (system_of log)
  run_looked log run =
      by_groups b IsLookedIf grows
      (λ steps. subst (Looked (begin_record b ∷ [])) (sym (start_system b)) (begins run.course.limits)) log run.course run.going run.steps

-- ---- each moment

pub answers_at : AtEachMoment AnswersWerePublished
answers_at b log m run is before after ticket server split =
    each_split [] _ before after ticket server (run_looked b _ (run_at_moment b log m run is)).each split

pub core_at : AtEachMoment LookupsGoToCoreIn
core_at b log m run is = (run_looked b _ (run_at_moment b log m run is)).core

pub lawful_answers : OfLawfulLogs AnswersWerePublished
lawful_answers s log valid played m = answers_at (beginning_in s) log m (lawful_logs_are_safe.runs s log valid played)
