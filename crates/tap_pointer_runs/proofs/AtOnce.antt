-- A lookup that is answered without a server as it starts ends at its asker, and is disturbed at the end of its group.
use Rattle.std.proofs.Common.{◌≡◌, inl, inr, ℕ, true, List, [], ◌∷◌, ◌++◌, length, None, Some, arith, ap, sym, subst, ◌∙◌, append_assoc, length-append}
use Rattle.tap_pointer.specs.Pointers.{pair_of}
use Rattle.tap_scenario.specs.declared.step.Step.TheVariants.{Find}
use Rattle.tap_log.specs.declared.record.Record.{Record}
use Rattle.tap_log.specs.declared.record.Record.TheVariants.{Answered, Asked, Step as StepRecord}
use Rattle.tap_history.specs.Moments.{is_moment}
use Rattle.tap_rule.specs.Event.Event.{Starts}
use Rattle.tap_rule.specs.Event.News.{Answered as AnsweredNews}
use Rattle.tap_rule.specs.Event.Start.{Find as StartFind}
use Rattle.tap_safety.specs.Move.{may_start}
use Rattle.tap_safety.specs.Move.Move.{Begins}
use Rattle.tap_safety.specs.Moved.{moved, starter}
use Rattle.tap_runs.specs.Beginning.{Beginning}
use Rattle.tap_runs.specs.Course.{Follows, system_of}
use Rattle.tap_runs.specs.Group.{records_of_act}
use Rattle.tap_runs.specs.Named.{HaveNames}
use Rattle.tap_runs.specs.Starts.{announced}
use Rattle.tap_runs.proofs.CourseGrows.{whole}
use Rattle.tap_runs.proofs.Within.{IsWhole}
use Rattle.tap_safety_moves.specs.Sound.{Sound}
use Rattle.tap_safe_runs.specs.Safe.{IsRun}
use Rattle.tap_safe_runs.proofs.Safe.{run_more, runs_are_sound}
use Rattle.tap_safe_runs.proofs.GroupKinds.{IsStartGroup, run_moves}
use Rattle.tap_pointer_moves.specs.Publications.{is_served}
use Rattle.tap_pointer_moves.proofs.Publications.{start_serves}
use Rattle.tap_pointer_runs.proofs.ServersGrow.{Grown}
use Rattle.tap_pointer_runs.proofs.Runs.{run_grown, served_is}
use Rattle.tap_pointer_moves.specs.LookupAnswers.{news_of}
use Rattle.tap_pointer_moves.specs.NoServer.{AreLookups, EndsAt}
use Rattle.tap_pointer_moves.proofs.NoServer.{ends_at_once_are_exact, none_is_noted_at_ends}
use Rattle.tap_pointer_moves.proofs.Walks.{lookups_before}
use Rattle.tap_pointer_runs.specs.LookupAnswers.{was_asked}
use Rattle.tap_pointer_runs.specs.NoServer.{EndsAsAsked}
use Rattle.tap_pointer_runs.proofs.Failing.{HasFailed}
use Rattle.tap_pointer_runs.proofs.LookupsGrow.{asked_grows}
use Rattle.tap_pointer_runs.proofs.Moments.{IsClear, disturbed_by, end_moment, ends_now, now_disturbed}
use Rattle.tap_pointer_runs.proofs.RunAnswers.{asked_first, find_step, finds_asked}

module _ (b : Beginning) (log group : List Record) (run : IsRun b log) (follows : Follows b log group)
    (names : HaveNames b.settings group) (moment : is_moment log (length log) ≡ true)
    (start : IsStartGroup b.settings log (system_of log) group) (ticket : ℕ) (object : List ℕ)
    (finds : start.starting.start ≡ StartFind ticket object)
    (noted : news_of b.settings (system_of log) (Begins start.starting.name start.starting.start) ≡ Some (AnsweredNews ticket None)) where
  w : IsWhole log group
  w = whole b log group run.course run.going follows

  sound : Sound b.settings (system_of log)
  sound = runs_are_sound b log run

  grown : Grown log (system_of log)
  grown = run_grown b log run

  asks : may_start b.settings (system_of log) start.starting.name (StartFind ticket object)
  asks = subst (may_start b.settings (system_of log) start.starting.name) finds start.may

  ends_at_asker : EndsAt (system_of log) start.starting.name object 0
  ends_at_asker =
      none_is_noted_at_ends b.settings (system_of log) start.starting.name ticket object asks sound
      (subst (λ what. news_of b.settings (system_of log) (Begins start.starting.name what) ≡ Some (AnsweredNews ticket None)) finds noted)

  group_is : group ≡ StepRecord start.index (Find object start.starting.name) ∷ Asked ticket object start.starting.name
      ∷ records_of_act b.settings log start.starting.name (starter b.settings (system_of log) start.starting.name start.starting.start)
      (Starts start.starting.start)
  group_is =
      let st = start.starting in
      let find = find_step log start.step st.name st.start st.at ticket object finds in
      let done = records_of_act b.settings log st.name (starter b.settings (system_of log) st.name st.start) (Starts st.start) in
      let said : announced log start.step ++ done ≡ Asked ticket object st.name ∷ done =
      ap (λ l. l ++ done) (finds_asked log start.step st.name ticket object find) in
      start.is ∙ ap (λ l. StepRecord start.index start.step ∷ l) (st.are ∙ said)
      ∙ ap (λ q. StepRecord start.index q ∷ Asked ticket object st.name ∷ done) find.is

  ends_as_asked : EndsAsAsked log group ticket object
  ends_as_asked = record {
    index = start.index;
    asker = start.starting.name;
    items =
        records_of_act b.settings log start.starting.name
        (starter b.settings (system_of log) start.starting.name start.starting.start) (Starts start.starting.start);
    is = group_is;
    ends = ends_at_asker;
  }

  not_clear : IsClear (log ++ group) object → ⊥
  not_clear clear =
      let st = start.starting in
      let same = run_moves b log group run follows (Some (Begins st.name st.start)) start.moves
      ∙ ap (λ what. moved b.settings (system_of log) (Begins st.name what)) finds in
      let node = asks.acts.state in
      let lookups = lookups_before b.settings (system_of log) st.name (StartFind ticket object) node asks.acts.is
      (subst AreLookups same clear.lookups) in
      let pair = pair_of object clear.server in
      let served_after : is_served (system_of (log ++ group)) pair ≡ true =
      sym ((run_grown b (log ++ group) (run_more b log group run follows names)).agree pair) ∙ clear.published in
      let served : is_served (system_of log) pair ≡ true =
      sym (start_serves b.settings (system_of log) st.name (StartFind ticket object) pair asks sound grown.stand)
      ∙ sym (ap (λ t. is_served t pair) same) ∙ served_after in
      ends_at_once_are_exact b.settings (system_of log) st.name object ticket sound grown.stand lookups asks ends_at_asker clear.server
      (served_is (system_of log) pair served)

  -- the group asks for it before it answers it
  asked_before : (middle later : List Record) → group ≡ middle ++ Answered ticket None ∷ later
      → was_asked (log ++ middle) ticket object ≡ true
  asked_before middle later is = by_middle middle (sym group_is ∙ is)
    where
      first_asked : was_asked (log ++ StepRecord start.index (Find object start.starting.name) ∷ Asked ticket object start.starting.name ∷ [])
          ticket object ≡ true
      first_asked =
          let st = start.starting in
          let find = find_step log start.step st.name st.start st.at ticket object finds in
          subst (λ l. was_asked (log ++ l) ticket object ≡ true)
          (ap (λ l. StepRecord start.index start.step ∷ l) (finds_asked log start.step st.name ticket object find)
          ∙ ap (λ q. StepRecord start.index q ∷ Asked ticket object st.name ∷ []) find.is)
          (asked_first log start.index start.step st.name st.start st.at ticket object finds)

      by_middle : (middle : List Record)
          → StepRecord start.index (Find object start.starting.name) ∷ Asked ticket object start.starting.name
          ∷ records_of_act b.settings log start.starting.name
          (starter b.settings (system_of log) start.starting.name start.starting.start) (Starts start.starting.start)
          ≡ middle ++ Answered ticket None ∷ later → was_asked (log ++ middle) ticket object ≡ true
      by_middle [] is =
          let wrong : StepRecord start.index (Find object start.starting.name) ≡ Answered ticket None = cc in absurd (cc)
      by_middle (m ∷ []) is =
          let wrong : Asked ticket object start.starting.name ≡ Answered ticket None = cc in absurd (cc)
      by_middle (m ∷ n ∷ middle) is =
          let one : StepRecord start.index (Find object start.starting.name) ≡ m = cc in
          let two : Asked ticket object start.starting.name ≡ n = cc in
          let both : was_asked (log ++ m ∷ n ∷ []) ticket object ≡ true =
          subst (λ r. was_asked (log ++ m ∷ r ∷ []) ticket object ≡ true) two
          (subst (λ r. was_asked (log ++ r ∷ Asked ticket object start.starting.name ∷ []) ticket object ≡ true) one first_asked) in
          subst (λ l. was_asked l ticket object ≡ true) (append_assoc log (m ∷ n ∷ []) middle)
          (asked_grows (log ++ m ∷ n ∷ []) middle ticket object both)

  pub start_failed : (middle later : List Record) → group ≡ middle ++ Answered ticket None ∷ later
      → HasFailed (log ++ group) (log ++ middle) ticket
  start_failed middle rest is =
      let size = length-append log middle in
      let asked = asked_before middle rest is in
      let whole_asked : was_asked (log ++ group) ticket object ≡ true =
      subst (λ l. was_asked l ticket object ≡ true)
      (append_assoc log middle (Answered ticket None ∷ rest) ∙ ap (λ g. log ++ g) (sym is))
      (asked_grows (log ++ middle) (Answered ticket None ∷ rest) ticket object asked) in
      record {
        object = object;
        asked = asked;
        ended = ends_now log group w ticket object (log ++ middle) moment (omega (arith, size)) (inr ends_as_asked);
        disturbed = elim (now_disturbed (log ++ group) ticket object (end_moment log group w) whole_asked) [
          | inl known ↦ disturbed_by log group w ticket object middle known
          | inr clear ↦ absurd (not_clear clear)
        ];
      }
