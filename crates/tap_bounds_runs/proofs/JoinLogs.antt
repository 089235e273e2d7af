-- In a run in which nothing but joins is accepted few frames are sent, in the words of its log.
-- Cited above: joins_at
use Rattle.std.proofs.Common.{◌≡◌, inl, inr, ℕ, ◌+◌, ◌≤◌, Bool, true, false, not, List, [], ◌∷◌, ◌++◌, filter, length, take, refl, ap, sym, subst, ◌∙◌, append-nil, append_assoc, length-append}
use Rattle.std.specs.Prelude.{fold, if◌then◌else◌}
use Rattle.std.specs.List.{filter_map}
use Rattle.std.proofs.lemmas.Bool.{and_parts}
use Rattle.std.proofs.lemmas.List.Elements.{filter-append, filter_map-append}
use Rattle.tap_name.specs.Names.{Among, are_distinct, has_name}
use Rattle.tap_name.proofs.Membership.{among-append, are_distinct-Decides, has_name-Decides, has_name-no}
use Rattle.tap_scenario.specs.declared.step.Step.{Step}
use Rattle.tap_log.specs.Counts.{sent_count}
use Rattle.tap_log.specs.Kinds.{is_carried}
use Rattle.tap_log.specs.MoreRecords.{at_most_one}
use Rattle.tap_log.specs.declared.record.Record.{Record}
use Rattle.tap_history.specs.Core.{accepted_in, accepted_steps, joins_of}
use Rattle.tap_history.specs.Groups.{is_ended}
use Rattle.tap_history.specs.Names.{names_of, with_name}
use Rattle.tap_history.specs.StepAsks.{join_name}
use Rattle.tap_history.proofs.RecordChanges.{record_changes_hold}
use Rattle.tap_history.proofs.OneMoreGroup.{accepted_in-group, is_carried-group}
use Rattle.tap_history.proofs.Telling.{names_of-group}
use Rattle.tap_safety.specs.Move.{Move}
use Rattle.tap_runs.specs.Beginning.{Beginning, IsWithinLimits, begin_record}
use Rattle.tap_runs.specs.Course.{Follows, IsCourse, move_of_group, system_of}
use Rattle.tap_runs.specs.Named.{HaveNames}
use Rattle.tap_runs.proofs.CourseGrows.{by_groups, course_grows_holds, starts_uncarried, whole}
use Rattle.tap_runs.proofs.Within.{IsWhole}
use Rattle.tap_lawful.specs.Next.{beginning_in}
use Rattle.tap_safe_runs.specs.SafeLogs.{OfLawfulLogs}
use Rattle.tap_safe_runs.specs.Moments.{AtEachMoment}
use Rattle.tap_safe_runs.specs.Safe.{IsRun}
use Rattle.tap_safe_runs.proofs.Lawful.{lawful_logs_are_safe}
use Rattle.tap_safe_runs.proofs.Possible.{group_may_move}
use Rattle.tap_safe_runs.proofs.Safe.{run_at_moment, runs_are_sound, steps_after, steps_before}
use Rattle.tap_bounds.specs.FewSent.{traffic_of}
use Rattle.tap_bounds.specs.Traffic.{Traffic, no_traffic}
use Rattle.tap_bounds.specs.OfJoins.{JoinsAlone}
use Rattle.tap_bounds_runs.specs.Joins.{AcceptsJoinsAlone, JoinsSendFew, joined_by, joined_in, most_of_joins, is_other_start}
use Rattle.tap_bounds_runs.specs.Traffic.{moves_of, traffic_in}
use Rattle.tap_bounds_runs.proofs.Accepts.{Accepts, group_accepts}
use Rattle.tap_bounds_runs.proofs.Agreeing.{run_agrees, sent_is}
use Rattle.tap_bounds_runs.proofs.RunMoves.{grown_moves, rest, run_goes, start_moves, traffic_is}
use Rattle.tap_bounds_runs.proofs.Sum.{run_joins_send_few}

-- ---- names, each once

-- distinct names that are new are all added
each_new : (names more : List (List ℕ)) → are_distinct more ≡ true → ((x : List ℕ) → Among x more → Among x names → ⊥)
    → fold with_name names more ≡ names ++ more
each_new names [] distinct apart = sym (append-nil names)
each_new names (x ∷ more) distinct apart =
    let parts = and_parts (not (has_name more x)) (are_distinct more) distinct in
    let new : has_name names x ≡ false = not_there (has_name names x) (λ has. apart x (inl refl) ((has_name-Decides names x).0 has)) in
    ap (λ b. fold with_name (if b then names else names ++ x ∷ []) more) new
    ∙ each_new (names ++ x ∷ []) more parts.1 (λ y later there.
    elim ((among-append names (x ∷ []) y).0 there) [
      | inl before ↦ apart y (inr later) before
      | inr one ↦ elim one [
        | inl same ↦ (has_name-no more x).0 parts.0 (subst (λ z. Among z more) same later)
        | inr never ↦ never
      ]
    ])
    ∙ append_assoc names (x ∷ []) more
  where
    not_there : (b : Bool) → (b ≡ true → ⊥) → b ≡ false
    not_there true fails = absurd (fails refl)
    not_there false fails = refl

-- ---- moves after moves

pub joined_more : (moves more : List Move) → joined_in (moves ++ more) ≡ joined_in moves ++ joined_in more
joined_more moves more = filter_map-append joined_by moves more

pub alone_more : (moves more : List Move) → JoinsAlone moves → JoinsAlone more → JoinsAlone (moves ++ more)
alone_more [] more alone also = also
alone_more (move ∷ moves) more alone also = (alone.0, alone_more moves more alone.1 also)

none_before : (xs ys : List Step) → filter is_other_start (xs ++ ys) ≡ []
    → (filter is_other_start xs ≡ []) × (filter is_other_start ys ≡ [])
none_before xs ys none = both (filter is_other_start xs) (filter is_other_start ys) (sym (filter-append is_other_start xs ys) ∙ none)
  where
    both : (first later : List Step) → first ++ later ≡ [] → (first ≡ []) × (later ≡ [])
    both [] later is = (refl, is)
    both (step ∷ first) later is = absurd (cc)

-- ---- each log of a run

module _ (b : Beginning) where
  -- The joins of the log are those of its moves; the names that ever were are those of its members and joins; and if it accepts nothing but
  -- joins its moves start nothing else.
  pub record HasJoins (log : List Record) : Type 0 where
    pub joins : joins_of log ≡ joined_in (moves_of log)
    pub names : names_of log ≡ b.members ++ joined_in (moves_of log)
    pub alone : AcceptsJoinsAlone log → JoinsAlone (moves_of log)

  module _ (log group : List Record) (run : IsRun b log) (follows : Follows b log group) (steps : HaveNames b.settings group)
      (has : HasJoins log) where
    accepts : Accepts log group (move_of_group log group)
    accepts =
        let sound = runs_are_sound b log run in
        group_accepts b.settings log (system_of log) group follows.may
        (λ one is. group_may_move b log group one run.course run.going sound.invariant.basis follows steps is)

    uncarried : is_carried log ≡ false
    uncarried = starts_uncarried log (begin_record b) run.course.begins

    accepted_more : accepted_steps (log ++ group) ≡ accepted_steps log ++ accepted_in false group
    accepted_more = by (whole b log group run.course run.going follows)
      where
        by : IsWhole log group → accepted_steps (log ++ group) ≡ accepted_steps log ++ accepted_in false group
        by w =
            ap (λ g. accepted_steps (log ++ g)) w.is
            ∙ ap (λ c. accepted_in c (log ++ w.first ∷ w.after)) (is_carried-group (is_carried log) log w.first w.after w.whole.begins)
            ∙ accepted_in-group (is_carried log) log w.first w.after w.whole.begins
            ∙ ap (λ c. accepted_steps log ++ accepted_in c (w.first ∷ w.after)) uncarried
            ∙ ap (λ g. accepted_steps log ++ accepted_in false g) (sym w.is)

    names_more : names_of (log ++ group) ≡ fold with_name (names_of log) (filter_map join_name (accepted_in false group))
    names_more = by (whole b log group run.course run.going follows)
      where
        by : IsWhole log group → names_of (log ++ group) ≡ fold with_name (names_of log) (filter_map join_name (accepted_in false group))
        by w =
            ap (λ g. names_of (log ++ g)) w.is ∙ names_of-group log w.first w.after w.whole
            ∙ ap (λ c. fold with_name (names_of log) (filter_map join_name (accepted_in c (w.first ∷ w.after)))) uncarried
            ∙ ap (λ g. fold with_name (names_of log) (filter_map join_name (accepted_in false g))) (sym w.is)

    joins_grow : HasJoins (log ++ group)
    joins_grow =
        let moves = grown_moves b log group run.course run.going follows in
        let one = at_most_one (move_of_group log group) in
        let joined : joined_in (moves_of (log ++ group)) ≡ joined_in (moves_of log) ++ joined_in one =
        ap joined_in moves ∙ joined_more (moves_of log) one in
        record {
          joins =
              ap (filter_map join_name) accepted_more ∙ filter_map-append join_name (accepted_steps log) (accepted_in false group)
              ∙ ap (λ l. l ++ filter_map join_name (accepted_in false group)) has.joins
              ∙ ap (λ l. joined_in (moves_of log) ++ l) accepts.joins ∙ sym joined;
          names =
              names_more ∙ ap (fold with_name (names_of log)) accepts.joins ∙ accepts.names
              ∙ ap (λ l. l ++ joined_in one) has.names ∙ append_assoc b.members (joined_in (moves_of log)) (joined_in one)
              ∙ ap (λ l. b.members ++ l) (sym joined);
          alone = λ alone.
              let both = none_before (accepted_steps log) (accepted_in false group) (sym (ap (filter is_other_start) accepted_more) ∙ alone) in
              subst JoinsAlone (sym moves) (alone_more (moves_of log) one (has.alone both.0) (accepts.alone both.1));
        }

  abbrev HasJoinsIf : List Record → Type 0
  HasJoinsIf log = HaveNames b.settings log → HasJoins log

  joins_more : (log group : List Record) → IsCourse b log → is_ended log ≡ false → Follows b log group → HasJoinsIf log
      → HasJoinsIf (log ++ group)
  joins_more log group course going follows has steps =
      let before = steps_before b.settings log group steps in
      joins_grow log group (record { course = course; going = going; steps = before }) follows (steps_after b.settings log group steps)
      (has before)

  joins_first : IsWithinLimits b → HasJoins (begin_record b ∷ [])
  joins_first limits =
      let new = record_changes_hold.begins b.settings b.frames b.members in
      let none = start_moves b limits in
      record {
        joins = ap (filter_map join_name) new.accepted ∙ sym (ap joined_in none);
        names =
            new.names
            ∙ each_new [] b.members ((are_distinct-Decides b.members).1 limits.distinct) (λ x among none. none)
            ∙ sym (ap (λ l. b.members ++ joined_in l) none ∙ append-nil b.members);
        alone = λ alone. subst JoinsAlone (sym none) tt;
      }

  pub has_joins : (log : List Record) → IsRun b log → HasJoins log
  has_joins log run = by_groups b HasJoinsIf joins_more (λ steps. joins_first run.course.limits) log run.course run.going run.steps

  pub run_joins : (log : List Record) → IsRun b log → JoinsSendFew b.settings log
  run_joins log run alone =
      let has = has_joins log run in
      let members = course_grows_holds.members b run.course.limits in
      let few = run_joins_send_few b.settings b.members (moves_of log) members (run_goes b log run).may (has.alone alone) in
      let sent : sent_count log ≡ length (traffic_in log).sent = sent_is b.settings log (traffic_in log).sent (run_agrees b log run).sent in
      let traffic = traffic_is b log run.course in
      let joins : length (joined_in (moves_of log)) ≡ length (joins_of log) = ap length (sym has.joins) in
      let names : length b.members + length (joined_in (moves_of log)) ≡ length (names_of log) =
      sym (length-append b.members (joined_in (moves_of log))) ∙ ap length (sym has.names) in
      subst (λ n. n ≤ most_of_joins b.settings (length (joins_of log)) (length (names_of log)))
      (sym (sent ∙ ap (λ (r : Traffic). length r.sent) traffic))
      (subst (λ n. length (traffic_of b.settings (rest b) no_traffic (moves_of log)).sent
      ≤ most_of_joins b.settings (length (joins_of log)) n) names
      (subst (λ n. length (traffic_of b.settings (rest b) no_traffic (moves_of log)).sent
      ≤ most_of_joins b.settings n (length b.members + length (joined_in (moves_of log)))) joins few))

-- ---- each moment, and lawful logs

pub joins_at : AtEachMoment JoinsSendFew
joins_at b log m run is = run_joins b (take m log) (run_at_moment b log m run is)

pub lawful_joins : OfLawfulLogs JoinsSendFew
lawful_joins s log valid played m is = joins_at (beginning_in s) log m (lawful_logs_are_safe.runs s log valid played) is
