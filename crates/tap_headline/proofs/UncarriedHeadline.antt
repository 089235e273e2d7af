-- Each log of a run that isn't carried has the headline, at each of its moments.
use Rattle.std.proofs.Common.{◌≡◌, inl, inr, ℕ, ◌<◌, ◌≤◌, true, false, not, cond, List, [], ◌∷◌, ◌++◌, length, filter, refl, ap, sym, subst, ◌∙◌, arith, append_assoc, length-append}
use Rattle.std.specs.List.{list_any}
use Rattle.std.proofs.lemmas.Bool.{false≢true, or_left, or_right}
use Rattle.std.proofs.lemmas.List.Elements.{All-cons, All-nil}
use Rattle.std.proofs.lemmas.List.Folds.{list_any-append}
use Rattle.tap_scenario.specs.declared.step.Step.{Step}
use Rattle.tap_scenario.specs.Scenario.{IsScript, ScenarioValue}
use Rattle.tap_log.specs.declared.record.Record.{Record}
use Rattle.tap_log.specs.declared.record.Record.TheVariants.{Finished, Spent, Step as StepRecord, Taken}
use Rattle.tap_log.specs.Counts.{sent_count}
use Rattle.tap_log.specs.Kinds.{begins_group, is_carried}
use Rattle.tap_log.specs.Reduced.{is_added, reduced}
use Rattle.tap_history.specs.Core.{accepted_steps}
use Rattle.tap_history.specs.Departing.{departing_of}
use Rattle.tap_history.specs.GroupLaws.{IsGroup}
use Rattle.tap_history.specs.Moments.{is_moment, outstanding}
use Rattle.tap_history.specs.StepAsks.{is_start}
use Rattle.tap_history.proofs.Instants.{moment-within}
use Rattle.tap_history.proofs.OneMoreGroup.{is_carried-group}
use Rattle.tap_runs.specs.Beginning.{Beginning, begin_record}
use Rattle.tap_carried.specs.ReducedRuns.{IsRunOfTurns}
use Rattle.tap_carried.proofs.SameNodes.{SaysAlike}
use Rattle.tap_carried.proofs.TurnGroups.{reduced-append}
use Rattle.tap_carried.proofs.TurnsKept.{IsKept, moment_cases}
use Rattle.tap_lawful.specs.Lawful.{IsUncarriedLogOf, IsUncarriedPlayed, UncarriedComesNext, step_alone}
use Rattle.tap_lawful.specs.Next.{beginning_in, uncarried_next_group}
use Rattle.tap_lawful.proofs.CarriedWhole.{whole_turn}
use Rattle.tap_lawful.proofs.Played.{by_next}
use Rattle.tap_lawful.proofs.Uncarried.{UncarriedSoFar, far_more, far_starts, turn_next}
use Rattle.tap_lawful.proofs.UncarriedLogs.{uncarried_runs_reduce}
use Rattle.tap_safe_runs.specs.SafeLogs.{AtMomentsOf}
use Rattle.tap_safe_runs.proofs.Ended.{finished_is_carried, finished_says, spent_is_carried, spent_says, step_is_carried}
use Rattle.tap_safe_runs.proofs.SafeLogs.{at_moments}
use Rattle.tap_headline.specs.Endings.{MayEnd}
use Rattle.tap_headline.specs.Scripts.{UncarriedLogsHaveHeadline}
use Rattle.tap_headline.proofs.CarriedMoments.{HasBegun, begun_end, begun_more, step_begun}
use Rattle.tap_headline.proofs.Departing.{HasLastGroup, IsBegunOrGrown, idle_departs, step_begins, step_departs, step_grown}
use Rattle.tap_headline.proofs.EachMoment.{HasHeadlineSoFar, at_end, at_moment, ended_alike, run_alone, run_kept}
use Rattle.tap_headline.proofs.Ended.{finished_within, may_cut, may_finish, may_spend, spent_within}
use Rattle.tap_headline.proofs.RootSetLogs.{uncarried_right}
use Rattle.tap_headline.proofs.Scripts.{logs_have_headline}
use Rattle.tap_headline.proofs.Starts.{IsIdle, finished_idle, idle_starts, spent_idle, step_idle}

-- ---- what ends a log

finished_may : (log : List Record) (steps : ℕ) → MayEnd log (reduced (Finished steps ∷ []))
unfolding is_added
finished_may log steps = may_finish log steps

spent_may : (log : List Record) (limit : ℕ) → MayEnd log (reduced (Spent limit ∷ []))
unfolding is_added
spent_may log limit = may_spend log limit

cut_may : (log : List Record) (index : ℕ) (step : Step) (limit : ℕ) → MayEnd log (reduced (StepRecord index step ∷ Spent limit ∷ []))
unfolding is_added
cut_may log index step limit = may_cut log index step limit

-- right after the beginning it is no moment
finished_none : (b : Beginning) (steps : ℕ) → is_moment (begin_record b ∷ Finished steps ∷ []) 2 ≡ false
unfolding is_carried begins_group
finished_none b steps = refl

spent_none : (b : Beginning) (limit : ℕ) → is_moment (begin_record b ∷ Spent limit ∷ []) 2 ≡ false
unfolding is_carried begins_group
spent_none b limit = refl

-- ---- a group has begun

-- with what begins a group begins one of the reduced log
begins_kept : (item : Record) → begins_group false item ≡ true → is_added item ≡ false
unfolding begins_group is_added
begins_kept (StepRecord index step) is = refl
begins_kept (Taken number) is = refl
begins_kept item is = absurd (false≢true is)

head_begun : (first : Record) (after : List Record) → begins_group false first ≡ true
    → list_any (begins_group false) (reduced (first ∷ after)) ≡ true
head_begun first after begins =
    ap (λ b. list_any (begins_group false) (cond {A = List Record} (not b) (first ∷ reduced after) (reduced after))) (begins_kept first begins)
    ∙ or_left (begins_group false first) (list_any (begins_group false) (reduced after)) begins

grown_begun : (log : List Record) → is_carried log ≡ false → HasLastGroup log → HasBegun log
grown_begun log uncarried last =
    let before = last.before in
    let first = last.first in
    let after = last.after in
    let plain : is_carried before ≡ false =
    sym (is_carried-group (is_carried before) before first after last.group.begins) ∙ ap is_carried (sym last.is) ∙ uncarried in
    let begins : begins_group false first ≡ true = ap (λ c. begins_group c first) (sym plain) ∙ last.group.begins in
    ap (λ l. list_any (begins_group false) (reduced l)) last.is
    ∙ ap (list_any (begins_group false)) (reduced-append before (first ∷ after))
    ∙ list_any-append (begins_group false) (reduced before) (reduced (first ∷ after))
    ∙ or_right (list_any (begins_group false) (reduced before)) (list_any (begins_group false) (reduced (first ∷ after)))
    (head_begun first after begins)

-- ---- a run that isn't over

module _ (s : ScenarioValue) (valid : IsScript s) where
  -- the log so far is its beginning, or has a last group
  record IsSoFar (log : List Record) : Type 0 where
    far : UncarriedSoFar s valid log
    grown : IsBegunOrGrown (beginning_in s) log

  so_far_more : (log group : List Record) → IsSoFar log → UncarriedComesNext s log group → sent_count (log ++ group) ≤ s.frames
      → IsSoFar (log ++ group)
  so_far_more log group is comes within =
      let next = far_more s valid log group is.far comes within in
      let w = whole_turn false (beginning_in s) log group is.far.run (turn_next s valid log group is.far.run comes within) next.run in
      record {
        far = next;
        grown = inr (record { before = log; first = w.first; after = w.after; is = ap (λ g. log ++ g) w.is; group = w.whole });
      }

  so_far : (log : List Record) → IsUncarriedPlayed s log → IsSoFar log
  so_far log played =
      by_next (uncarried_next_group s) s.frames IsSoFar so_far_more (begin_record (beginning_in s) ∷ []) log
      (record { far = far_starts s valid; grown = inl refl }) played.begins played.each played.within played.going

module _ (s : ScenarioValue) (valid : IsScript s) (played : List Record) (is_played : IsUncarriedPlayed s played) where
  abbrev b : Beginning
  b = beginning_in s

  abbrev HasAll : List Record → Type 0
  HasAll front = HasHeadlineSoFar s.settings front

  run : IsRunOfTurns false b played
  run = uncarried_runs_reduce.run s played valid is_played

  kept : IsKept false played
  kept = run_kept false b played run

  grown : IsBegunOrGrown b played
  grown = (so_far s valid played is_played).grown

  -- what holds at its moments, and at the end with an ending
  with_end : (ending : List Record) → MayEnd (reduced played) (reduced ending) → SaysAlike false (played ++ ending)
      → ((m : ℕ) → length played < m → is_moment (played ++ ending) m ≡ true → m ≡ length (played ++ ending))
      → (is_moment (played ++ ending) (length (played ++ ending)) ≡ true → HasBegun (played ++ ending))
      → AtMomentsOf (played ++ ending) HasAll
  with_end ending may alike last begun =
      at_moments played ending kept.carried alike.carried last HasAll (at_moment false b played run)
      (λ moment. at_end false b played run ending may alike
      (begun_end (reduced (played ++ ending)) alike.uncarried (begun moment)))

  -- ---- one record, which begins no group

  module _ (item : Record) (idle : IsIdle played item) (within : begins_group false item ≡ false)
      (still : is_carried (played ++ item ∷ []) ≡ false) (frames : outstanding (played ++ item ∷ []) ≡ outstanding played)
      (may : MayEnd (reduced played) (reduced (item ∷ []))) (none : is_moment (begin_record b ∷ item ∷ []) 2 ≡ false) where
    abbrev more : List Record
    more = played ++ item ∷ []

    one_last : (m : ℕ) → length played < m → is_moment more m ≡ true → m ≡ length more
    one_last m past is =
        let size = length-append played (item ∷ []) in
        let most = moment-within more m is in
        omega (arith, size, most, past)

    one_begun : is_moment more (length more) ≡ true → HasBegun more
    one_begun moment =
        elim grown [
          | inl begun ↦
              absurd (false≢true (sym none ∙ subst (λ l. is_moment (l ++ item ∷ []) (length (l ++ item ∷ [])) ≡ true) begun moment))
          | inr last ↦ begun_more played (item ∷ []) (grown_begun played kept.carried last)
        ]

    one_has : AtMomentsOf more HasAll
    one_has =
        with_end (item ∷ []) may
        (ended_alike false b played run (item ∷ []) may still (idle_starts played item idle)
        (idle_departs b played item grown kept.carried idle within frames))
        one_last one_begun

  finished_has : (steps : ℕ) → AtMomentsOf (played ++ Finished steps ∷ []) HasAll
  finished_has steps =
      let alone = run_alone false b played run in
      one_has (Finished steps) (finished_idle played steps alone) (finished_within steps)
      (finished_is_carried played steps ∙ kept.carried) (finished_says played steps alone).frames
      (finished_may (reduced played) steps) (finished_none b steps)

  spent_has : (limit : ℕ) → AtMomentsOf (played ++ Spent limit ∷ []) HasAll
  spent_has limit =
      one_has (Spent limit) (spent_idle played limit) (spent_within limit)
      (spent_is_carried played limit ∙ kept.carried) (spent_says played limit).frames
      (spent_may (reduced played) limit) (spent_none b limit)

  -- ---- a step with which too many frames would be sent

  module _ (index : ℕ) (step : Step) (limit : ℕ) where
    abbrev first : Record
    first = StepRecord index step

    abbrev begun : List Record
    begun = played ++ first ∷ []

    abbrev cut : List Record
    cut = first ∷ Spent limit ∷ []

    both : begun ++ Spent limit ∷ [] ≡ played ++ cut
    both = append_assoc played (first ∷ []) (Spent limit ∷ [])

    step_uncarried : is_carried begun ≡ false
    step_uncarried = step_is_carried played index step ∙ kept.carried

    cut_uncarried : is_carried (played ++ cut) ≡ false
    cut_uncarried = ap is_carried (sym both) ∙ spent_is_carried begun limit ∙ step_uncarried

    cut_starts : filter is_start (accepted_steps (played ++ cut)) ≡ filter is_start (accepted_steps played)
    cut_starts =
        ap (λ l. filter is_start (accepted_steps l)) (sym both) ∙ idle_starts begun (Spent limit) (spent_idle begun limit)
        ∙ idle_starts played first (step_idle played index step)

    cut_departs : departing_of (played ++ cut) ≡ departing_of played
    cut_departs =
        ap departing_of (sym both)
        ∙ idle_departs b begun (Spent limit) (step_grown b played index step kept.begun) step_uncarried (spent_idle begun limit)
        (spent_within limit) (spent_says begun limit).frames
        ∙ step_departs b played index step grown kept.begun

    cut_group : IsGroup played first (Spent limit ∷ [])
    cut_group = record {
      begun = kept.begun;
      begins = step_begins (is_carried played) index step;
      alone = All-cons (λ item. begins_group (is_carried played) item ≡ false) (Spent limit) []
          (ap (λ c. begins_group c (Spent limit)) kept.carried ∙ spent_within limit)
          (All-nil (λ item. begins_group (is_carried played) item ≡ false));
    }

    cut_last : (m : ℕ) → length played < m → is_moment (played ++ cut) m ≡ true → m ≡ length (played ++ cut)
    cut_last m past is =
        elim (moment_cases played first (Spent limit ∷ []) cut_group m is) [
          | inl earlier ↦ let up_to = earlier.0 in absurd (omega (arith, past, up_to))
          | inr end ↦ end
        ]

    cut_has : AtMomentsOf (played ++ cut) HasAll
    cut_has =
        let may = cut_may (reduced played) index step limit in
        with_end cut may (ended_alike false b played run cut may cut_uncarried cut_starts cut_departs)
        cut_last (λ moment. step_begun played index step (Spent limit ∷ []))

  -- what stands of the group that would send too many frames, and then how many may be sent
  alone_has : (limit : ℕ) (group : List Record) → AtMomentsOf (played ++ (step_alone group ++ Spent limit ∷ [])) HasAll
  unfolding step_alone
  alone_has limit [] = spent_has limit
  alone_has limit (StepRecord index step ∷ items) = cut_has index step limit
  alone_has limit (item ∷ items) = spent_has limit

-- ---- however it has ended

has_all : (s : ScenarioValue) (log : List Record) → IsScript s → IsUncarriedLogOf s log → AtMomentsOf log (HasHeadlineSoFar s.settings)
has_all s log valid of =
    let played = of.played in
    let At : List Record → Type 0 = λ l. AtMomentsOf l (HasHeadlineSoFar s.settings) in
    elim of.ending [
      | inl same ↦
          subst At (sym same) (at_moment false (beginning_in s) played (uncarried_runs_reduce.run s played valid of.is_played))
      | inr (inl finished) ↦ subst At (sym finished.log_is) (finished_has s valid played of.is_played (length s.steps))
      | inr (inr spent) ↦ subst At (sym spent.log_is) (alone_has s valid played of.is_played s.frames spent.group)
    ]

pub uncarried_logs_have_headline : UncarriedLogsHaveHeadline
uncarried_logs_have_headline s log valid of =
    let all = has_all s log valid of in
    record {
      headline = λ m is. (all m is).headline;
      moments = λ m is. (all m is).moment;
      agreement = λ m is. (all m is).agrees;
      whole = logs_have_headline s (reduced log) valid (uncarried_runs_reduce.ended s log valid of);
      root_sets = uncarried_right s valid log of;
    }
