-- Lookups of a run that are answered without a server: where they end, and what has disturbed them.
-- Cited above: disturbed_at_moments, ends_at_moments
use Rattle.std.proofs.Common.{◌≡◌, inl, inr, ℕ, true, false, List, [], ◌∷◌, ◌++◌, All, None, ap, sym, subst, ◌∙◌}
use Rattle.std.specs.Prelude.{◌&&◌, ◌||◌, if◌then◌else◌, nat_eq, nat_le}
use Rattle.std.proofs.lemmas.List.Elements.{All-append, All-cons, All-weaker}
use Rattle.tap_name.specs.Settings.{SettingsValue}
use Rattle.tap_log.specs.declared.record.Record.{Record}
use Rattle.tap_log.specs.declared.record.Record.TheVariants.{Answered, Step as StepRecord, Taken}
use Rattle.tap_log.proofs.MoreRecords.{carried_alone}
use Rattle.tap_history.specs.Groups.{is_ended}
use Rattle.tap_history.specs.Moments.{is_group_end, is_moment}
use Rattle.tap_rule.specs.Event.Event.{Starts}
use Rattle.tap_safety.specs.AtRest.{system_at_rest}
use Rattle.tap_safety.specs.Move.Move.{Begins, Delivers}
use Rattle.tap_safety.specs.Moved.{numbered_frame, starter}
use Rattle.tap_runs.specs.Beginning.{Beginning, begin_record}
use Rattle.tap_runs.specs.Course.{Follows, IsCourse, system_of}
use Rattle.tap_runs.specs.Group.{records_of_act}
use Rattle.tap_runs.specs.Named.{HaveNames}
use Rattle.tap_runs.specs.Starts.{announced}
use Rattle.tap_runs.proofs.CourseGrows.{by_groups, start_system, whole}
use Rattle.tap_runs.proofs.Within.{IsWhole}
use Rattle.tap_safe_runs.specs.Lawful.{beginning_in}
use Rattle.tap_safe_runs.specs.SafeLogs.{OfLawfulLogs}
use Rattle.tap_safe_runs.specs.Moments.{AtEachMoment}
use Rattle.tap_safe_runs.specs.Safe.{IsRun}
use Rattle.tap_safe_runs.proofs.Lawful.{lawful_logs_are_safe}
use Rattle.tap_safe_runs.proofs.Safe.{run_at_moment, runs_are_sound, steps_after, steps_before}
use Rattle.tap_safe_runs.proofs.GroupKinds.{IsKnownGroup, IsStartGroup, IsTakenGroup, run_kind}
use Rattle.tap_safe_runs.proofs.Splits.{all_at, parted_where}
use Rattle.tap_pointer_moves.specs.LookupAnswers.{news_of, news_of_frame}
use Rattle.tap_pointer_moves.proofs.LookupAnswers.{noted_delivery, noted_start}
use Rattle.tap_pointer_runs.specs.LookupAnswers.{was_asked}
use Rattle.tap_pointer_runs.specs.NoServer.{AnsweredNoneWereDisturbed, HasEndedBy, LookupsEndWithoutServer, WasDisturbed}
use Rattle.tap_pointer_runs.proofs.AtOnce.{start_failed}
use Rattle.tap_pointer_runs.proofs.Failing.{HasFailed, IsNoted, Watched, answer_watched, failed_still, fails_by, find_watched, free_noted}
use Rattle.tap_pointer_runs.proofs.LookupsGrow.{act_all, asked_grows, receive_all}
use Rattle.tap_pointer_runs.proofs.Moments.{end_moment}
use Rattle.tap_pointer_runs.proofs.Tickets.{asked_once}
use Rattle.tap_pointer_runs.proofs.Unanswered.{IsUnanswered, announced_unanswered, idle_unanswered}

module _ (b : Beginning) (log group : List Record) (run : IsRun b log) (follows : Follows b log group)
    (names : HaveNames b.settings group) (watched : Watched b.settings log (system_of log)) where
  abbrev p : SettingsValue
  p = b.settings

  w : IsWhole log group
  w = whole b log group run.course run.going follows

  kind : IsKnownGroup b.settings log (system_of log) group
  kind = run_kind b log group run follows names

  -- a record of a group that is an answer is what its move notes
  taken_noted : (taken : IsTakenGroup b.settings log (system_of log) group)
      → All (IsNoted (news_of b.settings (system_of log) (Delivers taken.number))) group
  taken_noted taken =
      let frame = numbered_frame taken.number (system_of log).frames in
      let Holds = IsNoted (news_of_frame (system_of log) frame) in
      let items : All Holds taken.items =
      subst (All Holds) (sym taken.are)
      (receive_all Holds (free_noted (news_of_frame (system_of log) frame)) b.settings log (system_of log) frame (λ ticket server is. is)) in
      subst (All Holds) (sym taken.is) (All-cons Holds (Taken taken.number) taken.items tt items)

  start_noted : (start : IsStartGroup b.settings log (system_of log) group)
      → All (IsNoted (news_of b.settings (system_of log) (Begins start.starting.name start.starting.start))) group
  start_noted start =
      let st = start.starting in
      let news = news_of b.settings (system_of log) (Begins st.name st.start) in
      let Holds = IsNoted news in
      let node = starter b.settings (system_of log) st.name st.start in
      let said : All Holds (announced log start.step) =
      All-weaker IsUnanswered Holds (λ item none. free_noted news item none) (announced log start.step) (announced_unanswered log start.step) in
      let done = act_all Holds (free_noted news) b.settings log st.name node (Starts st.start) (λ ticket server is. is) in
      let items : All Holds start.items =
      subst (All Holds) (sym st.are)
      (All-append Holds (announced log start.step) (records_of_act b.settings log st.name node (Starts st.start)) said done) in
      subst (All Holds) (sym start.is) (All-cons Holds (StepRecord start.index start.step) start.items tt items)

  -- an answer in the group
  group_failed : (middle later : List Record) (ticket : ℕ) → group ≡ middle ++ Answered ticket None ∷ later
      → HasFailed (log ++ group) (log ++ middle) ticket
  group_failed middle rest ticket is =
      elim kind [
        | inl idle ↦
            let items : All IsUnanswered group =
            subst (All IsUnanswered) (sym idle.is) (All-cons IsUnanswered (StepRecord idle.index idle.step) idle.items tt
            (idle_unanswered b.settings log (system_of log) group idle follows.may)) in
            absurd (all_at IsUnanswered group middle (Answered ticket None) rest items is)
        | inr (inl start) ↦
            let st = start.starting in
            let noted = all_at (IsNoted (news_of b.settings (system_of log) (Begins st.name st.start))) group middle (Answered ticket None)
            rest (start_noted start) is in
            let one = noted_start b.settings (system_of log) st.name st.start ticket None start.may noted in
            start_failed b log group run follows names watched.moment start ticket one.0 one.1 noted middle rest is
        | inr (inr taken) ↦
            let noted = all_at (IsNoted (news_of b.settings (system_of log) (Delivers taken.number))) group middle (Answered ticket None) rest
            (taken_noted taken) is in
            let one = noted_delivery b.settings (system_of log) taken.number ticket None taken.may (runs_are_sound b log run) noted in
            fails_by log group w middle ticket (watched.answers one.0 one.1 ticket one.2)
      ]

  each_failed : (before after : List Record) (ticket : ℕ) → log ++ group ≡ before ++ Answered ticket None ∷ after
      → HasFailed (log ++ group) before ticket
  each_failed before after ticket is =
      elim (parted_where log group before (Answered ticket None ∷ after) is) [
        | inl now ↦
            subst (λ l. HasFailed (log ++ group) l ticket) (sym now.front) (group_failed now.middle after ticket now.back)
        | inr earlier ↦
            let back = earlier.back in
            let same : earlier.first ≡ Answered ticket None = cc in
            failed_still log group w before ticket
            (watched.each before earlier.middle ticket (earlier.front ∙ ap (λ r. before ++ r ∷ earlier.middle) same))
      ]

  watched_grows : Watched b.settings (log ++ group) (system_of (log ++ group))
  watched_grows = record {
    moment = end_moment log group w;
    finds = find_watched b log group run follows names watched;
    answers = answer_watched b log group run follows names watched;
    each = each_failed;
  }

-- ---- all groups

module _ (b : Beginning) where
  abbrev IsWatchedIf : List Record → Type 0
  IsWatchedIf log = HaveNames b.settings log → Watched b.settings log (system_of log)

  grows : (log group : List Record) → IsCourse b log → is_ended log ≡ false → Follows b log group → IsWatchedIf log
      → IsWatchedIf (log ++ group)
  grows log group course going follows before steps =
      let earlier = steps_before b.settings log group steps in
      watched_grows b log group (record { course = course; going = going; steps = earlier }) follows
      (steps_after b.settings log group steps) (before earlier)

  first_moment : is_moment (begin_record b ∷ []) 1 ≡ true
  first_moment =
      ap (λ c. nat_le 1 1 && (nat_eq 1 (if c then 2 else 1) || is_group_end (begin_record b ∷ []) 1)) (carried_alone (begin_record b))

  no_answer : (before after : List Record) (ticket : ℕ) → begin_record b ∷ [] ≡ before ++ Answered ticket None ∷ after → ⊥
  no_answer [] after ticket is = let wrong : begin_record b ≡ Answered ticket None = cc in cc
  no_answer (first ∷ []) after ticket is = let wrong : [] ≡ Answered ticket None ∷ after = cc in cc
  no_answer (first ∷ next ∷ before) after ticket is = let wrong : [] ≡ next ∷ (before ++ Answered ticket None ∷ after) = cc in cc

  begins : Watched b.settings (begin_record b ∷ []) (system_at_rest b.settings b.members)
  begins = record {
    moment = first_moment;
    finds = λ from to ticket object asker level way. absurd way.among;
    answers = λ from to ticket way. absurd way.among;
    each = λ before after ticket is. absurd (no_answer before after ticket is);
  }

  run_watched : (log : List Record) → IsRun b log → Watched b.settings log (system_of log)
  run_watched log run =
      by_groups b IsWatchedIf grows
      (λ steps. subst (Watched b.settings (begin_record b ∷ [])) (sym (start_system b)) begins) log run.course run.going run.steps

  -- the object that the lookup of an answer has asked for
  failed_of : (log before after : List Record) (ticket : ℕ) (object : List ℕ) → IsRun b log → log ≡ before ++ Answered ticket None ∷ after
      → was_asked before ticket object ≡ true → HasEndedBy log before ticket object × WasDisturbed log before ticket object
  failed_of log before after ticket object run is asked =
      let failed = (run_watched log run).each before after ticket is in
      let grows = λ (sought : List ℕ) (there : was_asked before ticket sought ≡ true).
      subst (λ l. was_asked l ticket sought ≡ true) (sym is) (asked_grows before (Answered ticket None ∷ after) ticket sought there) in
      let same = asked_once b log run ticket failed.object object (grows failed.object failed.asked) (grows object asked) in (
        subst (HasEndedBy log before ticket) same failed.ended,
        subst (WasDisturbed log before ticket) same failed.disturbed,
      )

-- ---- each moment

pub ends_at_moments : AtEachMoment LookupsEndWithoutServer
ends_at_moments b log m run is before after ticket object split asked =
    (failed_of b _ before after ticket object (run_at_moment b log m run is) split asked).0

pub disturbed_at_moments : AtEachMoment AnsweredNoneWereDisturbed
disturbed_at_moments b log m run is before after ticket object split asked =
    (failed_of b _ before after ticket object (run_at_moment b log m run is) split asked).1

pub lawful_ends : OfLawfulLogs LookupsEndWithoutServer
lawful_ends s log valid played m = ends_at_moments (beginning_in s) log m (lawful_logs_are_safe.runs s log valid played)

pub lawful_disturbed : OfLawfulLogs AnsweredNoneWereDisturbed
lawful_disturbed s log valid played m = disturbed_at_moments (beginning_in s) log m (lawful_logs_are_safe.runs s log valid played)
