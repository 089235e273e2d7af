-- A carried run that starts nothing but joins, and has enough frames for them, never ends because more would be sent.
-- Cited above: runs_are_never_spent
use Rattle.std.proofs.Common.{◌≡◌, ◌⊎◌, inl, inr, ℕ, ◌+◌, ◌≤◌, Bool, true, false, List, ◌∷◌, ◌++◌, length, take, Some, refl, ap, sym, subst, ◌∙◌, arith, append-nil}
use Rattle.std.specs.Prelude.{slice_get}
use Rattle.tap_scenario.specs.Scenario.{IsScript, ScenarioValue}
use Rattle.tap_scenario.specs.declared.step.Step.{Step}
use Rattle.tap_log.specs.declared.record.Record.{Record}
use Rattle.tap_log.specs.declared.record.Record.TheVariants.{Step as StepRecord, Taken}
use Rattle.tap_log.specs.Counts.{sent_count}
use Rattle.tap_log.specs.Kinds.{sent_number}
use Rattle.tap_log.specs.Log.{begun_steps}
use Rattle.tap_log.specs.Reduced.{reduced}
use Rattle.tap_history.specs.Moments.{has_number, outstanding}
use Rattle.tap_history.specs.Refusals.{first_refusal}
use Rattle.tap_runs.specs.Course.{MayFollow, system_of}
use Rattle.tap_carried.specs.LogTurns.{Turn, group_of_turn, reduced_group}
use Rattle.tap_carried.specs.LogTurns.Turn.{Arrives, Steps, Takes, Ticks}
use Rattle.tap_carried.specs.ReducedLogs.{AgreesWithReduced}
use Rattle.tap_carried.specs.ReducedRuns.{IsRunOfTurns, TurnFollows}
use Rattle.tap_carried.proofs.BeginningKept.{log_kept}
use Rattle.tap_carried.proofs.ReducedLogs.{logs_agree}
use Rattle.tap_carried.proofs.ReducedRuns.{runs_reduce}
use Rattle.tap_carried.proofs.SameTold.{kept_sent, reduced_tells}
use Rattle.tap_carried.proofs.TurnGroups.{reduced-append, turn_reduced}
use Rattle.tap_lawful.specs.CarriedRuns.{CarriedComesNext, IsCarriedPlayed, IsCarriedScript}
use Rattle.tap_lawful.specs.Next.{beginning_in, begun_count}
use Rattle.tap_lawful.specs.Runs.{IsFinishedBy, IsPlayedBy, IsSpentBy, IsWholeLogBy}
use Rattle.tap_lawful.proofs.CarriedComing.{begun_head, carried_coming}
use Rattle.tap_lawful.proofs.CarriedGrowth.{carried_steps}
use Rattle.tap_lawful.proofs.CarriedReduction.{carried_run, script_steps}
use Rattle.tap_lawful.proofs.CarriedTurns.{turn_of_group}
use Rattle.tap_lawful.proofs.CarriedWhole.{is_turn}
use Rattle.tap_lawful.proofs.UncarriedLogs.{plain_played, spent_reduces}
use Rattle.tap_safe_runs.specs.Safe.{IsRun}
use Rattle.tap_bounds_runs.specs.Enough.{AsksForJoinsAlone, HasEnoughFrames, RunsAreNeverSpent, RunsEndFinished}
use Rattle.tap_bounds_runs.proofs.Enough.{never_spent, step_few, taken_few}

module _ (s : ScenarioValue) (script : IsCarriedScript s) (alone : AsksForJoinsAlone s) (enough : HasEnoughFrames s) (played : List Record)
    (is_played : IsCarriedPlayed s played) where
  carried : IsRunOfTurns true (beginning_in s) played
  carried = carried_run s script played is_played

  abbrev less : List Record
  less = reduced played

  run : IsRun (beginning_in s) less
  run = let is = runs_reduce.run true (beginning_in s) played carried in record { course = is.course; going = is.going; steps = is.steps }

  agrees : AgreesWithReduced played
  agrees = logs_agree.agree true played (runs_reduce.turns true (beginning_in s) played carried)

  follows : begun_steps less ≡ take (begun_count less) s.steps
  follows =
      agrees.steps ∙ carried_steps s played script is_played ∙ ap (λ l. take (length l) s.steps) (sym agrees.steps)

  within : sent_count less ≤ s.frames
  within = subst (λ n. n ≤ s.frames) (sym agrees.sent) is_played.within

  -- the step of a group is the one that is next
  next_is : (group : List Record) → CarriedComesNext s played group → (index : ℕ) (step : Step) (items : List Record)
      → StepRecord index step ∷ items ≡ group → slice_get s.steps (begun_count less) ≡ Some step
  next_is group comes index step items is =
      elim (carried_coming s played group comes) [
        | inl arrives ↦ let wrong = is ∙ sym arrives.is in absurd (cc)
        | inr (inl ticks) ↦ let wrong = is ∙ sym ticks.is in absurd (cc)
        | inr (inr begins) ↦
            let head = begun_head s.settings played (begun_count played + 1) begins.step (first_refusal played begins.step) in
            let both = is ∙ sym (head.1 ∙ begins.is) in
            let same : step ≡ begins.step = cc in
            ap (λ l. slice_get s.steps (length l)) agrees.steps ∙ begins.next ∙ sym (ap (λ x. Some x) same)
      ]

  waits_of : (frame : ℕ) (items : List Record) → MayFollow s.settings less (system_of less) (Taken frame ∷ items)
      → has_number (outstanding less) frame ≡ true
  unfolding MayFollow
  waits_of frame items may = may.waits

  -- what becomes of a turn sends few frames
  few_by : (most : ℕ) (group : List Record) (turn : Turn) → CarriedComesNext s played group → group_of_turn true turn ≡ group
      → TurnFollows true (record { settings = s.settings; frames = most; members = s.members }) played turn
      → sent_count (less ++ reduced_group turn) ≤ s.frames
  few_by most group (Steps index step items added) comes is turn =
      step_few s alone enough less run follows within index step items turn.0.0.may (next_is group comes index step (items ++ added) is)
  few_by most group (Takes packet frame items added) comes is turn =
      taken_few s alone enough less run follows within frame items turn.0.may (waits_of frame items turn.0.may)
  few_by most group (Arrives packet added) comes is turn = subst (λ l. sent_count l ≤ s.frames) (sym (append-nil less)) within
  few_by most group (Ticks added) comes is turn = subst (λ l. sent_count l ≤ s.frames) (sym (append-nil less)) within

  few_next : (group : List Record) → CarriedComesNext s played group → sent_count (played ++ group) ≤ s.frames
  few_next group comes =
      let most = sent_count (played ++ group) in
      let next = turn_of_group s played carried most group (script_steps s script) comes (omega arith) in
      let turn = is_turn true (record { settings = s.settings; frames = most; members = s.members }) played next.turn
      (log_kept true played (runs_reduce.turns true (beginning_in s) played carried)) next.follows in
      let reduces : reduced (played ++ group) ≡ less ++ reduced_group next.turn =
      reduced-append played group ∙ ap (λ g. less ++ reduced g) (sym next.is) ∙ ap (λ l. less ++ l) (turn_reduced true next.turn turn) in
      let same : sent_count (less ++ reduced_group next.turn) ≡ sent_count (played ++ group) =
      ap sent_count (sym reduces) ∙ ap length (reduced_tells sent_number kept_sent (played ++ group)) in
      subst (λ n. n ≤ s.frames) same (few_by most group next.turn comes next.is next.follows)

never_by : (c : Bool) (s : ScenarioValue) (played log : List Record) → s.carrier ≡ c → IsScript s → AsksForJoinsAlone s → HasEnoughFrames s
    → IsPlayedBy c s played → IsSpentBy c s played log → ⊥
never_by true s played log is valid alone enough is_played spent =
    let few = few_next s (record { valid = valid; carried = is }) alone enough played is_played spent.group spent.next in
    let over = spent.over in absurd (omega (arith, few, over))
never_by false s played log is valid alone enough is_played spent =
    never_spent s (reduced played) (reduced log) valid alone enough (plain_played s valid played is_played)
    (spent_reduces s valid played log spent)

pub runs_are_never_spent : RunsAreNeverSpent
runs_are_never_spent s played log valid alone enough is_played spent = never_by s.carrier s played log refl valid alone enough is_played spent

-- ---- so a whole run comes to its end

whole_by : (c : Bool) (s : ScenarioValue) (log : List Record) → IsWholeLogBy c s log
    → (played : List Record) × IsPlayedBy c s played × (IsFinishedBy c s played log ⊎ IsSpentBy c s played log)
whole_by true s log whole = (whole.played, whole.is_played, whole.over)
whole_by false s log whole = (whole.played, whole.is_played, whole.over)

pub runs_end_finished : RunsEndFinished
runs_end_finished s log valid alone enough whole =
    let parts = whole_by s.carrier s log whole in
    elim parts.2 [
      | inl finished ↦ record { played = parts.0; is_played = parts.1; finished = finished }
      | inr spent ↦ absurd (runs_are_never_spent s parts.0 log valid alone enough parts.1 spent)
    ]
