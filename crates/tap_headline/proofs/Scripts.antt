-- Each log of a run begins as its scenario does, with the scenario's first steps, and has the headline, also if the run is over.
use Rattle.std.proofs.Common.{◌≡◌, inl, inr, ℕ, suc, ◌+◌, List, [], ◌∷◌, ◌++◌, length, take, Some, refl, ap, sym, subst, ◌∙◌, arith, append-nil, length-append}
use Rattle.std.specs.Prelude.{slice_get}
use Rattle.std.proofs.lemmas.List.Elements.{filter_map-append}
use Rattle.tap_scenario.specs.declared.step.Step.{Step}
use Rattle.tap_scenario.specs.Scenario.{ScenarioValue}
use Rattle.tap_log.specs.declared.record.Record.{Record}
use Rattle.tap_log.specs.declared.record.Record.TheVariants.{Step as StepRecord, Spent, Finished}
use Rattle.tap_log.specs.Kinds.{step_of}
use Rattle.tap_log.specs.Log.{begun_steps}
use Rattle.tap_history.specs.Groups.{groups_of, records_of}
use Rattle.tap_history.proofs.Parts.{log_is_groups}
use Rattle.tap_runs.specs.Beginning.{begin_record}
use Rattle.tap_lawful.specs.Next.{beginning_in, begun_count}
use Rattle.tap_runs.specs.Groups.{step_group, taken_group}
use Rattle.tap_lawful.specs.Lawful.{IsFinished, IsPlayed, IsSpent, step_alone}
use Rattle.tap_lawful.proofs.Coming.{coming}
use Rattle.tap_lawful.proofs.BegunSteps.{played_steps, take_next}
use Rattle.tap_safe_runs.specs.Safe.{IsRun}
use Rattle.tap_safe_runs.proofs.Lawful.{lawful_logs_are_safe}
use Rattle.tap_headline.specs.Headline.{HasHeadline}
use Rattle.tap_headline.proofs.Ended.{may_cut, may_finish, may_spend}
use Rattle.tap_headline.proofs.Headline.{ended_logs_have_headline}
use Rattle.tap_headline.specs.Scripts.{FollowsScript, LogsFollowScripts, LogsHaveHeadline}

-- ---- a run that isn't over

-- the log is its beginning and its groups
pub played_is : (s : ScenarioValue) (log : List Record) → IsPlayed s log → log ≡ begin_record (beginning_in s) ∷ records_of (groups_of log)
played_is s log played = sym (log_is_groups log played.going) ∙ ap (λ l. l ++ records_of (groups_of log)) played.begins

played_follows : (s : ScenarioValue) (log : List Record) → IsPlayed s log → FollowsScript s log
played_follows s log played = record { begins = (records_of (groups_of log), played_is s log played); steps = played_steps s log played }

-- ---- what ends a run

-- the steps are the scenario's first ones
abbrev pub StepsFollow : ScenarioValue → List Record → Type 0
StepsFollow s log = begun_steps log ≡ take (begun_count log) s.steps

-- these records begin these steps
with_end : (s : ScenarioValue) (played end : List Record) (steps : List Step) → begun_steps end ≡ steps
    → begun_steps played ++ steps ≡ take (length (begun_steps played ++ steps)) s.steps → StepsFollow s (played ++ end)
with_end s played end steps ends taken =
    let all : begun_steps (played ++ end) ≡ begun_steps played ++ steps =
    filter_map-append step_of played end ∙ ap (λ l. begun_steps played ++ l) ends in
    all ∙ taken ∙ sym (ap (λ l. take (length l) s.steps) all)

pub no_more_steps : (s : ScenarioValue) (played end : List Record) → StepsFollow s played → begun_steps end ≡ [] → StepsFollow s (played ++ end)
no_more_steps s played end follows none =
    let same = append-nil (begun_steps played) in
    with_end s played end [] none (same ∙ follows ∙ sym (ap (λ l. take (length l) s.steps) same))

pub one_more_step : (s : ScenarioValue) (played end : List Record) (step : Step) → StepsFollow s played → begun_steps end ≡ step ∷ []
    → slice_get s.steps (begun_count played) ≡ Some step → StepsFollow s (played ++ end)
one_more_step s played end step follows begins next =
    with_end s played end (step ∷ []) begins
    (ap (λ l. l ++ step ∷ []) follows ∙ sym (take_next (begun_count played) s.steps step next)
    ∙ ap (λ n. take n s.steps) (let size = length-append (begun_steps played) (step ∷ []) in
    let e : suc (begun_count played) ≡ length (begun_steps played ++ step ∷ []) = omega (arith, size) in e))

with_begins : (s : ScenarioValue) (played end : List Record) → FollowsScript s played → StepsFollow s (played ++ end)
    → FollowsScript s (played ++ end)
with_begins s played end follows steps =
    record { begins = (follows.begins.0 ++ end, ap (λ l. l ++ end) follows.begins.1); steps = steps }

no_more : (s : ScenarioValue) (played end : List Record) → FollowsScript s played → begun_steps end ≡ [] → FollowsScript s (played ++ end)
no_more s played end follows none = with_begins s played end follows (no_more_steps s played end follows.steps none)

one_more : (s : ScenarioValue) (played end : List Record) (step : Step) → FollowsScript s played → begun_steps end ≡ step ∷ []
    → slice_get s.steps (begun_count played) ≡ Some step → FollowsScript s (played ++ end)
one_more s played end step follows begins next =
    with_begins s played end follows (one_more_step s played end step follows.steps begins next)

finished_follows : (s : ScenarioValue) (played log : List Record) → FollowsScript s played → IsFinished s played log → FollowsScript s log
finished_follows s played log follows over =
    subst (FollowsScript s) (sym over.log_is) (no_more s played (Finished (length s.steps) ∷ []) follows refl)

-- what stands of the group that would send too many frames
pub taken_alone : (s : ScenarioValue) (played : List Record) (number : ℕ) → step_alone (taken_group s.settings played number) ≡ []
unfolding step_alone
taken_alone s played number = refl

pub begun_alone : (s : ScenarioValue) (played : List Record) (index : ℕ) (step : Step)
    → step_alone (step_group s.settings played index step) ≡ StepRecord index step ∷ []
unfolding step_alone
begun_alone s played index step = refl

spent_follows : (s : ScenarioValue) (played log : List Record) → FollowsScript s played → IsSpent s played log → FollowsScript s log
spent_follows s played log follows over =
    let Ends : List Record → Type 0 = λ alone. FollowsScript s (played ++ (alone ++ Spent s.frames ∷ [])) in
    subst (FollowsScript s) (sym over.log_is) (
    elim (coming s played over.group over.next) [
      | inl takes ↦
          subst Ends (sym (taken_alone s played takes.number) ∙ ap step_alone takes.is)
          (no_more s played (Spent s.frames ∷ []) follows refl)
      | inr begins ↦
          let index = begun_count played + 1 in
          subst Ends (sym (begun_alone s played index begins.step) ∙ ap step_alone begins.is)
          (one_more s played (StepRecord index begins.step ∷ Spent s.frames ∷ []) begins.step follows refl begins.next)
    ]
    )

pub logs_follow_scripts : LogsFollowScripts
logs_follow_scripts s log run =
    let follows = played_follows s run.played run.is_played in
    elim run.ending [
      | inl same ↦ subst (FollowsScript s) (sym same) follows
      | inr over ↦ elim over [
        | inl finished ↦ finished_follows s run.played log follows finished
        | inr spent ↦ spent_follows s run.played log follows spent
      ]
    ]

-- ---- the headline

-- what stands alone of the group that would send too many frames, and then `Spent`, keeps it
spent_has : (s : ScenarioValue) (played log : List Record) → IsRun (beginning_in s) played → IsSpent s played log → HasHeadline s.settings log
spent_has s played log run over =
    let Ends : List Record → Type 0 = λ alone. HasHeadline s.settings (played ++ (alone ++ Spent s.frames ∷ [])) in
    subst (HasHeadline s.settings) (sym over.log_is) (
    elim (coming s played over.group over.next) [
      | inl takes ↦
          subst Ends (sym (taken_alone s played takes.number) ∙ ap step_alone takes.is)
          (ended_logs_have_headline.ended (beginning_in s) played (Spent s.frames ∷ []) run (may_spend played s.frames))
      | inr begins ↦
          let index = begun_count played + 1 in
          subst Ends (sym (begun_alone s played index begins.step) ∙ ap step_alone begins.is)
          (ended_logs_have_headline.ended (beginning_in s) played (StepRecord index begins.step ∷ Spent s.frames ∷ []) run
          (may_cut played index begins.step s.frames))
    ]
    )

pub logs_have_headline : LogsHaveHeadline
logs_have_headline s log valid of =
    let run = lawful_logs_are_safe.runs s of.played valid of.is_played in
    elim of.ending [
      | inl same ↦ subst (HasHeadline s.settings) (sym same) (ended_logs_have_headline.going (beginning_in s) of.played run)
      | inr over ↦ elim over [
        | inl finished ↦
            subst (HasHeadline s.settings) (sym finished.log_is)
            (ended_logs_have_headline.ended (beginning_in s) of.played (Finished (length s.steps) ∷ []) run
            (may_finish of.played (length s.steps)))
        | inr spent ↦ spent_has s of.played log run spent
      ]
    ]
