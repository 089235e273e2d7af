-- Each log of a carried run has the headline, at each of its moments.
use Rattle.std.proofs.Common.{◌≡◌, inl, inr, ℕ, suc, ◌-◌, ◌≤◌, All, true, false, List, [], ◌∷◌, ◌++◌, length, take, ap, sym, subst, ◌∙◌, arith}
use Rattle.std.proofs.Math.Seq.{take-length}
use Rattle.std.proofs.lemmas.Bool.{cases_lt}
use Rattle.std.proofs.lemmas.List.{take-append-le}
use Rattle.std.proofs.lemmas.List.Elements.{All-nil, All-take}
use Rattle.tap_scenario.specs.Scenario.{ScenarioValue}
use Rattle.tap_log.specs.declared.record.Record.{Record}
use Rattle.tap_log.specs.declared.record.Record.TheVariants.{Finished, Spent, Step as StepRecord}
use Rattle.tap_log.specs.Counts.{sent_count}
use Rattle.tap_log.specs.Kinds.{begins_group}
use Rattle.tap_log.specs.Reduced.{reduced}
use Rattle.tap_history.specs.GroupLaws.{IsGroup}
use Rattle.tap_history.specs.Moments.{is_moment}
use Rattle.tap_history.proofs.OneMoreGroup.{one_more_group_holds}
use Rattle.tap_runs.specs.Beginning.{Beginning}
use Rattle.tap_carried.specs.ReducedRuns.{IsRunOfTurns}
use Rattle.tap_carried.proofs.SameNodes.{SaysAlike}
use Rattle.tap_lawful.specs.CarriedRuns.{CarriedComesNext, IsCarriedCut, IsCarriedLogOf, IsCarriedPlayed, IsCarriedScript, IsCarriedSpent}
use Rattle.tap_lawful.specs.Next.{beginning_in}
use Rattle.tap_lawful.proofs.CarriedOneLog.{one_carried_log_holds}
use Rattle.tap_lawful.proofs.CarriedReduction.{carried_run, carried_runs_reduce, whole_next}
use Rattle.tap_lawful.proofs.CarriedWhole.{after_alone}
use Rattle.tap_headline.specs.Carried.{AtCarriedMomentsOf, CarriedLogsHaveHeadline, IsAllTakenAtRest, ReducedLogsAreRuns, UncutLogsKeepMoments}
use Rattle.tap_headline.specs.Endings.{MayEnd}
use Rattle.tap_headline.proofs.CarriedEnds.{cut_alike, cut_frames, finished_alike, finished_ends, finished_frames, kept}
use Rattle.tap_headline.proofs.CarriedMoments.{HasBegun, IsEarlierOrLast, IsSoFar, begun_cases, begun_end, begun_more, cut_moments, finished_cases, first_step, so_far, step_begun}
use Rattle.tap_headline.proofs.CarriedTaken.{all_arrived, all_taken, cut_all, each_once, finished_all, front_keeps, played_keeps}
use Rattle.tap_headline.proofs.EachMoment.{HasHeadlineSoFar, as_run, at_end, at_moment}
use Rattle.tap_headline.proofs.FewPackets.{few_made}
use Rattle.tap_headline.proofs.Openings.{HasOpening, IsOpening, opening_begins, opening_ends, opening_of}
use Rattle.tap_headline.proofs.RootSetLogs.{carried_right}

-- what is so of the records of a carried run up to a moment
record HasAll (s : ScenarioValue) (front : List Record) : Type 0 where
  has : HasHeadlineSoFar s.settings front
  taken : IsAllTakenAtRest front

-- ---- at a moment of a run that isn't over

module _ (s : ScenarioValue) (script : IsCarriedScript s) (played : List Record) (is_played : IsCarriedPlayed s played) where
  abbrev b : Beginning
  b = beginning_in s

  run : IsRunOfTurns true b played
  run = carried_run s script played is_played

  at_each : (m : ℕ) → is_moment played m ≡ true → HasAll s (take m played)
  at_each m is = record {
    has = at_moment true b played run m is;
    taken = all_taken (take m played) (front_keeps s played m script is_played);
  }

  -- ---- at its end

  far : IsSoFar s played
  far = so_far s script played is_played

  module _ (ending : List Record) (may : MayEnd (reduced played) (reduced ending)) (alike : SaysAlike true (played ++ ending))
      (taken : IsAllTakenAtRest (played ++ ending)) (begun : HasBegun (played ++ ending)) where
    abbrev longer : List Record
    longer = played ++ ending

    at_last : HasAll s longer
    at_last = record {
      has = at_end true b played run ending may alike (begun_end (reduced longer) alike.uncarried begun);
      taken = taken;
    }

  -- a moment that is one of the run, or the end
  module _ (ending : List Record) where
    by_end : (m : ℕ) → IsEarlierOrLast played (played ++ ending) m → HasAll s (played ++ ending) → HasAll s (take m (played ++ ending))
    by_end m (inl earlier) last =
        subst (HasAll s) (sym (take-append-le m played ending earlier.0)) (at_each m earlier.1)
    by_end m (inr end) last =
        subst (HasAll s) (sym (ap (λ k. take k (played ++ ending)) end ∙ take-length (played ++ ending))) last

    by_front : (m : ℕ) → m ≤ length played → is_moment played m ≡ true → HasAll s (take m (played ++ ending))
    by_front m within is = subst (HasAll s) (sym (take-append-le m played ending within)) (at_each m is)

  -- ---- by how it has ended

  finished_has : (m : ℕ) → is_moment (played ++ Finished (length s.steps) ∷ []) m ≡ true
      → HasAll s (take m (played ++ Finished (length s.steps) ∷ []))
  finished_has m is =
      let last = Finished (length s.steps) ∷ [] in
      elim far.grown [
        | inl begun ↦
            let at = begun_cases b (length s.steps) played begun m is in by_front last m at.0 at.1
        | inr grown ↦
            let keeps = played_keeps s script played is_played in
            by_end last m (finished_cases b played run grown.0 (length s.steps) m is)
            (at_last last (finished_ends b played run (inr grown.0) (length s.steps)) (finished_alike b played run (inr grown.0) (length s.steps))
            (finished_all played (length s.steps) keeps (finished_frames b played run (inr grown.0) (length s.steps)))
            (begun_more played last grown.1))
      ]

  module _ (group : List Record) (comes : CarriedComesNext s played group) where
    abbrev opening : HasOpening s played group
    opening = opening_of s played group comes

    cut_begun : HasBegun (played ++ opening.first ∷ Spent s.frames ∷ [])
    cut_begun =
        let last = Spent s.frames ∷ [] in
        elim far.grown [
          | inl begun ↦
              let step = first_step s script played group begun comes in
              let both = step.3 ∙ sym opening.is in
              let same : StepRecord step.0 step.1 ≡ opening.first = cc in
              subst (λ item. HasBegun (played ++ item ∷ last)) same (step_begun played step.0 step.1 last)
          | inr grown ↦ begun_more played (opening.first ∷ last) grown.1
        ]

    cut_has : (m : ℕ) → is_moment (played ++ opening.first ∷ Spent s.frames ∷ []) m ≡ true
        → HasAll s (take m (played ++ opening.first ∷ Spent s.frames ∷ []))
    cut_has m is =
        let first = opening.first in
        let last = first ∷ Spent s.frames ∷ [] in
        let keeps = played_keeps s script played is_played in
        by_end last m (cut_moments b played run first s.frames opening.opens m is)
        (at_last last (opening_ends (reduced played) first s.frames opening.opens) (cut_alike b played run first s.frames opening.opens)
        (cut_all played first s.frames opening.opens keeps (cut_frames b played run first s.frames opening.opens)) cut_begun)

    one_is : take 1 group ≡ opening.first ∷ []
    one_is = ap (take 1) (sym opening.is)

  spent_has : (log : List Record) → IsCarriedSpent s played log → (m : ℕ) → is_moment log m ≡ true → HasAll s (take m log)
  spent_has log spent =
      let whole : log ≡ played ++ (opening spent.group spent.next).first ∷ Spent s.frames ∷ [] =
      spent.log_is ∙ ap (λ l. played ++ (l ++ Spent s.frames ∷ [])) (one_is spent.group spent.next) in
      subst (λ l. (m : ℕ) → is_moment l m ≡ true → HasAll s (take m l)) (sym whole) (cut_has spent.group spent.next)

  -- ---- if memory ran out within a group

  -- the records that stand of it begin one group
  begins_one : (first : Record) (after : List Record) → IsOpening first → All (λ item. begins_group true item ≡ false) after
      → IsGroup played first after
  begins_one first after opens alone =
      let k = kept b played run in
      record {
        begun = k.begun;
        begins = ap (λ c. begins_group c first) k.carried ∙ opening_begins first opens;
        alone = subst (λ c. All (λ item. begins_group c item ≡ false) after) (sym k.carried) alone;
      }

  stopped_has : (log : List Record) (cut : IsCarriedCut s played log) (m : ℕ) → is_moment log m ≡ true → m ≤ length played
      → HasAll s (take m log)
  stopped_has log cut m is within =
      let group = cut.group in
      let o = opening_of s played group cut.next in
      let front : (after : List Record) → log ≡ played ++ o.first ∷ after → All (λ item. begins_group true item ≡ false) after
      → HasAll s (take m log) = λ after whole alone.
      let earlier = one_more_group_holds.earlier played o.first after (begins_one o.first after o.opens alone) m within in
      subst (λ l. HasAll s (take m l)) (sym whole)
      (by_front (o.first ∷ after) m within (sym earlier ∙ subst (λ l. is_moment l m ≡ true) whole is)) in
      elim (cases_lt s.frames (sent_count (played ++ group))) [
        | inl over ↦
            front []
            (cut.log_is ∙ ap (λ k. played ++ take k group) (cut.first over) ∙ ap (λ l. played ++ l) (ap (take 1) (sym o.is)))
            (All-nil (λ item. begins_group true item ≡ false))
        | inr fits ↦
            let w = whole_next s script played group run cut.next fits in
            let alone = after_alone played group o.first o.items w o.is in
            front (take (cut.kept - 1) o.items)
            (cut.log_is ∙ ap (λ g. played ++ take cut.kept g) (sym o.is)
            ∙ ap (λ k. played ++ take k (o.first ∷ o.items)) (let some = cut.some in let e : cut.kept ≡ suc (cut.kept - 1) = omega (arith, some) in e))
            (All-take (λ item. begins_group true item ≡ false) (cut.kept - 1) o.items alone)
      ]

-- ---- however it has ended

has_all : (s : ScenarioValue) (log : List Record) → IsCarriedScript s → IsCarriedLogOf s log → AtCarriedMomentsOf s log (HasAll s)
has_all s log script of m is =
    elim of.ending [
      | inl same ↦
          subst (λ l. HasAll s (take m l)) (sym same)
          (at_each s script of.played of.is_played m (subst (λ l. is_moment l m ≡ true) same is.moment))
      | inr (inl (inl finished)) ↦
          subst (λ l. HasAll s (take m l)) (sym finished.log_is)
          (finished_has s script of.played of.is_played m (subst (λ l. is_moment l m ≡ true) finished.log_is is.moment))
      | inr (inl (inr spent)) ↦ spent_has s script of.played of.is_played log spent m is.moment
      | inr (inr cut) ↦ stopped_has s script of.played of.is_played log cut m is.moment (is.uncut of.played of.is_played cut)
    ]

pub carried_logs_have_headline : CarriedLogsHaveHeadline
carried_logs_have_headline s log script of =
    let all = has_all s log script of in
    record {
      headline = λ m is. (all m is).has.headline;
      moments = λ m is. (all m is).has.moment;
      agreement = λ m is. (all m is).has.agrees;
      arrived = all_arrived s log script of;
      taken_once = each_once s log script of;
      rest_all_taken = λ m is. (all m is).taken;
      few_packets = few_made s log script of;
      root_sets = carried_right s script log of;
    }

pub reduced_logs_are_runs : ReducedLogsAreRuns
reduced_logs_are_runs s log m script played moment =
    as_run (beginning_in s) (take m log) (carried_runs_reduce.reduces_at s log m script played moment)

pub uncut_logs_keep_moments : UncutLogsKeepMoments
uncut_logs_keep_moments s log m kind moment =
    record { moment = moment; uncut = λ played is_played cut. absurd (one_carried_log_holds.uncut s played log is_played cut kind) }
