-- The reduced log of a carried run: its records have their shape, but for some numbers.
use Rattle.std.proofs.Common.{◌≡◌, inl, inr, ℕ, ◌+◌, ◌<◌, ◌≤◌, Bool, true, false, List, [], ◌∷◌, ◌++◌, length, slice_get, Option, None, Some, refl, sym, subst, ap, ◌∙◌, arith}
use Rattle.std.specs.Prelude.{IfSome, not, if◌then◌else◌}
use Rattle.std.specs.List.{filter_map}
use Rattle.tap_name.specs.Settings.{SettingsValue}
use Rattle.tap_name.specs.Name.{IsName}
use Rattle.tap_scenario.specs.declared.step.Step.{Step}
use Rattle.tap_scenario.specs.declared.step.Step.TheVariants.{Lose, Repeat, RootSet}
use Rattle.tap_scenario.specs.Scenario.{ScenarioValue}
use Rattle.tap_scenario.specs.Step.{IsStep}
use Rattle.tap_log.specs.declared.record.Record.{Record}
use Rattle.tap_log.specs.declared.record.Record.TheVariants.{Refused, Step as StepRecord, Taken}
use Rattle.tap_log.specs.declared.record.Refusal.{Refusal}
use Rattle.tap_log.specs.Counts.{packet_count, sent_count}
use Rattle.tap_log.specs.Frames.{bytes_of}
use Rattle.tap_log.specs.Kinds.{ended_number, is_carried, packet_number}
use Rattle.tap_log.specs.Log.{begun_steps}
use Rattle.tap_log.specs.Reduced.{is_added, reduced}
use Rattle.tap_line.specs.Line.{IsRefusal}
use Rattle.tap_shape.specs.Shape.{IsShaped}
use Rattle.tap_history.specs.Flights.{flight_count}
use Rattle.tap_history.specs.Moments.{has_number, outstanding, under_way}
use Rattle.tap_history.specs.Refusals.{first_refusal}
use Rattle.tap_history.proofs.Less.{filter_within}
use Rattle.tap_packets.specs.Packets.{PacketLine, lines_under_way}
use Rattle.tap_runs.specs.Beginning.{Beginning, begin_record}
use Rattle.tap_runs.specs.Course.{FollowStep, FollowTaken, Follows, MayFollow, is_choice, system_of}
use Rattle.tap_carried.specs.LogTurns.{Turn, beginning_records, group_of_turn, reduced_group}
use Rattle.tap_carried.specs.LogTurns.Turn.{Arrives, Steps, Takes, Ticks}
use Rattle.tap_carried.specs.ReducedLogs.{AgreesWithReduced}
use Rattle.tap_carried.specs.ReducedRuns.{IsRunOfTurns, ReducesToRun, TurnFollows}
use Rattle.tap_carried.proofs.BeginningKept.{log_kept}
use Rattle.tap_carried.proofs.ReducedLogs.{logs_agree}
use Rattle.tap_carried.proofs.ReducedRuns.{runs_reduce}
use Rattle.tap_carried.proofs.TurnGroups.{reduced-append, turn_reduced}
use Rattle.tap_lawful.specs.CarriedNext.{accepted_group, choice_group, group_unless, losing_group, repeating_group}
use Rattle.tap_lawful.specs.CarriedRuns.{CarriedComesNext, IsCarriedPlayed, IsCarriedScript}
use Rattle.tap_lawful.specs.Next.{beginning_in, begun_count, next_step}
use Rattle.tap_lawful.proofs.CarriedComing.{begun_head, carried_coming}
use Rattle.tap_lawful.proofs.CarriedGrowth.{carried_more, carried_starts, carried_steps}
use Rattle.tap_lawful.proofs.CarriedReduction.{by_carried, carried_run, script_steps}
use Rattle.tap_lawful.proofs.CarriedRunMoves.{carried_groups_move}
use Rattle.tap_lawful.proofs.CarriedTurns.{turn_of_group}
use Rattle.tap_lawful.proofs.CarriedWhole.{is_turn}
use Rattle.tap_safe_runs.specs.Safe.{IsRun}
use Rattle.tap_lawful_shapes.proofs.Groups.{IsLow, IsNearRun, departs, few_frames, kept_bytes, outstanding_few, step_near, taken_near}
use Rattle.tap_lawful_shapes.proofs.Near.{AreNear, IsNear, both_near, more_near, none_near, one_near}
use Rattle.tap_lawful_shapes.proofs.Refused.{AreSentBytes, none_so, none_unless_choice, packets_so, refusal_so}
use Rattle.tap_lawful_shapes.proofs.Uncarried.{next_fits, next_low, steps_few}

pub as_run : (b : Beginning) (log : List Record) → ReducesToRun b log → IsRun b (reduced log)
as_run b log is = record { course = is.course; going = is.going; steps = is.steps }

-- ---- the group of a choice has no refusal, unless the choice is refused

module _ (index other : ℕ) (refusal : Refusal) (rest : List Record) where
  losing_none : (place : ℕ) (line : Option PacketLine) (first : Record) → first ∷ Refused other refusal ∷ rest ≡ losing_group index place line → ⊥
  losing_none place None first is = absurd (cc)
  losing_none place (Some line) first is = absurd (cc)

  repeating_none : (log : List Record) (place : ℕ) (line : Option PacketLine) (first : Record)
      → first ∷ Refused other refusal ∷ rest ≡ repeating_group log index place line → ⊥
  repeating_none log place None first is = absurd (cc)
  repeating_none log place (Some line) first is = absurd (cc)

  choice_none : (p : SettingsValue) (log : List Record) (step : Step) (first : Record)
      → first ∷ Refused other refusal ∷ rest ≡ choice_group p log index step → ⊥
  unfolding choice_group
  choice_none p log (Lose place) first is = losing_none place (slice_get (lines_under_way log) place) first is
  choice_none p log (Repeat place) first is = repeating_none log place (slice_get (lines_under_way log) place) first is
  choice_none p log (RootSet object asker) first is = absurd (cc)
  choice_none p log step first is = absurd (cc)

-- ---- the step with which a group begins

-- the step is the next one of the scenario, and the group is its own
pub record IsNextStep (s : ScenarioValue) (log : List Record) (index : ℕ) (step : Step) (rest : List Record) : Type 0 where
  pub number : index ≡ begun_count log + 1
  pub next : next_step s log ≡ Some step
  pub group : StepRecord index step ∷ rest ≡ group_unless s.settings log (begun_count log + 1) step (first_refusal log step)

first_step : (index other : ℕ) (step another : Step) (rest items : List Record) → StepRecord index step ∷ rest ≡ StepRecord other another ∷ items
    → (index ≡ other) × (step ≡ another)
first_step index other step another rest items is = (cc, cc)

pub opens_step : (s : ScenarioValue) (log : List Record) (index : ℕ) (step : Step) (rest group : List Record) → CarriedComesNext s log group
    → StepRecord index step ∷ rest ≡ group → IsNextStep s log index step rest
opens_step s log index step rest group comes is =
    elim (carried_coming s log group comes) [
      | inl arrives ↦ let wrong = is ∙ sym arrives.is in absurd (cc)
      | inr (inl ticks) ↦ let wrong = is ∙ sym ticks.is in absurd (cc)
      | inr (inr begins) ↦
          let head = begun_head s.settings log (begun_count log + 1) begins.step (first_refusal log begins.step) in
          let same = first_step index (begun_count log + 1) step begins.step rest head.0 (is ∙ sym begins.is ∙ sym head.1) in
          record {
            number = same.0;
            next = begins.next ∙ ap (λ x. Some x) (sym same.1);
            group = subst (λ x. StepRecord index step ∷ rest ≡ group_unless s.settings log (begun_count log + 1) x (first_refusal log x)) (sym same.1)
                (is ∙ sym begins.is);
          }
    ]

-- ---- one more group

module _ (s : ScenarioValue) (script : IsCarriedScript s) where
  abbrev b : Beginning
  b = beginning_in s

  abbrev p : SettingsValue
  p = s.settings

  -- the log of a carried run, however far it has come
  record IsFar (log : List Record) : Type 0 where
    played : IsCarriedPlayed s log
    near : IsNearRun b true (reduced log)

  pub packets_few : (log : List Record) → IsCarriedPlayed s log → packet_count log < 2000000
  packets_few log played =
      let few = carried_groups_move.packets s log script played in
      let steps = script.valid.steps_to in
      let frames = script.valid.frames_to in
      let all = few_frames s.settings.digits in
      omega (arith, few, steps, frames, all)

  module _ (log : List Record) (far : IsFar log) where
    abbrev less : List Record
    less = reduced log

    run_of : IsRunOfTurns true b log
    run_of = carried_run s script log far.played

    agrees : AgreesWithReduced log
    agrees = logs_agree.agree true log (runs_reduce.turns true b log run_of)

    flights_few : flight_count log < 4000000
    flights_few = by_carrier (is_carried log)
      where
        by_carrier : (c : Bool) → (if c then length (under_way log) else length (outstanding log)) < 4000000
        by_carrier true =
            let few = filter_within (λ number. not (has_number (filter_map ended_number log) number)) (filter_map packet_number log) in
            let all = packets_few log far.played in
            omega (arith, few, all)
        by_carrier false =
            let few = outstanding_few b less far.near.run in
            let same = ap length agrees.outstanding in
            omega (arith, few, same)

    bytes_kept : (number : ℕ) → IfSome (bytes_of log number) AreSentBytes
    bytes_kept number = subst (λ o. IfSome o AreSentBytes) (agrees.bytes number) (kept_bytes b true less far.near number)

    refused_fits : (step : Step) → IfSome (first_refusal log step) (IsRefusal p)
    refused_fits step =
        let few = outstanding_few b less far.near.run in
        let same = ap length agrees.outstanding in
        let flights = flights_few in
        let packets = packets_few log far.played in
        refusal_so p log bytes_kept (omega (arith, few, same)) (omega (arith, flights))
        (subst (λ o. IfSome o (IsName p)) agrees.departing (departs b true less far.near)) step (packets_so p log step (omega (arith, packets)))

    -- of a choice the reduced log doesn't say why it is refused, and the whole one does
    chosen_fits : (index : ℕ) (step : Step) (refusal : Refusal) (rest : List Record) → is_choice step ≡ true
        → IsNextStep s log index step (Refused index refusal ∷ rest) → IsRefusal p refusal
    chosen_fits index step refusal rest choice begun = by_refusal (first_refusal log step) (refused_fits step) begun.group
      where
        by_refusal : (o : Option Refusal) → IfSome o (IsRefusal p)
            → StepRecord index step ∷ Refused index refusal ∷ rest ≡ group_unless p log (begun_count log + 1) step o → IsRefusal p refusal
        by_refusal (Some other) fits is = let same : other ≡ refusal = cc in subst (IsRefusal p) same fits
        by_refusal None fits is =
            absurd (choice_none (begun_count log + 1) index refusal rest p log step (StepRecord index step)
            (is ∙ ap (λ c. accepted_group c p log (begun_count log + 1) step) choice))

    -- ---- what becomes of a group in the reduced log

    module _ (index : ℕ) (step : Step) (items : List Record) (low : IsLow index) (fits : IsStep p true step)
        (follows : Follows b less (StepRecord index step ∷ items)) (after : IsRun b (less ++ StepRecord index step ∷ items))
        (chosen : (refusal : Refusal) → is_choice step ≡ true → items ≡ Refused index refusal ∷ [] → IsRefusal p refusal) where
      items_near : (choice : Bool) → is_choice step ≡ choice → FollowStep choice p less (system_of less) index step items → AreNear p true items
      unfolding IsNear IsShaped
      items_near true is (inl none) = subst (AreNear p true) (sym none) (none_near p true)
      items_near true is (inr refused) =
          subst (AreNear p true) (sym refused.is)
          (one_near p true (Refused index refused.refusal) (low, chosen refused.refusal is refused.is))
      items_near false is are =
          subst (AreNear p true) (sym are)
          (step_near b true less far.near index step low fits (none_so p less step (none_unless_choice p less step is))
          (subst (λ l. Follows b less (StepRecord index step ∷ l)) are follows) (subst (λ l. IsRun b (less ++ StepRecord index step ∷ l)) are after))

      steps_near : AreNear p true (StepRecord index step ∷ items)
      unfolding IsNear IsShaped MayFollow
      steps_near = more_near p true (StepRecord index step) items (low, fits) (items_near (is_choice step) refl follows.may)

    takes_near : (frame : ℕ) (items : List Record) → Follows b less (Taken frame ∷ items) → IsRun b (less ++ Taken frame ∷ items)
        → AreNear p true (Taken frame ∷ items)
    unfolding IsNear MayFollow
    takes_near frame items follows after =
        let may : FollowTaken p less (system_of less) frame items = follows.may in
        more_near p true (Taken frame) items tt
        (subst (AreNear p true) (sym may.are)
        (taken_near b true less far.near frame (subst (λ l. Follows b less (Taken frame ∷ l)) may.are follows)
        (subst (λ l. IsRun b (less ++ Taken frame ∷ l)) may.are after)))

    turn_near : (group : List Record) (turn : Turn) → CarriedComesNext s log group → group_of_turn true turn ≡ group → TurnFollows true b log turn
        → IsRun b (less ++ reduced_group turn) → AreNear p true (reduced_group turn)
    turn_near group (Steps index step items added) comes is follows after =
        let begun = opens_step s log index step (items ++ added) group comes is in
        let steps = carried_steps s log script far.played in
        steps_near index step items (subst IsLow (sym begun.number) (next_low s script.valid log steps))
        (subst (λ c. IsStep p c step) script.carried (next_fits s script.valid log step begun.next)) follows.0.0 after
        (λ refusal choice alone. chosen_fits index step refusal added choice
        (opens_step s log index step (Refused index refusal ∷ added) group comes (ap (λ l. StepRecord index step ∷ (l ++ added)) (sym alone) ∙ is)))
    turn_near group (Takes packet frame items added) comes is follows after = takes_near frame items follows.0 after
    turn_near group (Arrives packet added) comes is follows after = none_near p true
    turn_near group (Ticks added) comes is follows after = none_near p true

    far_more : (group : List Record) → CarriedComesNext s log group → sent_count (log ++ group) ≤ s.frames → IsFar (log ++ group)
    far_more group comes within =
        let longer = carried_more s log group script far.played comes within in
        let next = turn_of_group s log run_of s.frames group (script_steps s script) comes within in
        let after_run = carried_run s script (log ++ group) longer in
        let grown : reduced (log ++ group) ≡ less ++ reduced_group next.turn =
        reduced-append log group
        ∙ ap (λ l. less ++ l) (ap reduced (sym next.is)
        ∙ turn_reduced true next.turn (is_turn true b log next.turn (log_kept true log (runs_reduce.turns true b log run_of)) next.follows)) in
        let after = as_run b (log ++ group) (runs_reduce.run true b (log ++ group) after_run) in
        let same = (logs_agree.agree true (log ++ group) (runs_reduce.turns true b (log ++ group) after_run)).steps in
        record {
          played = longer;
          near = record {
            run = after;
            later = far.near.later ++ reduced_group next.turn;
            is = grown ∙ ap (λ l. l ++ reduced_group next.turn) far.near.is;
            near = both_near p true far.near.later (reduced_group next.turn) far.near.near
                (turn_near group next.turn comes next.is next.follows (subst (IsRun b) grown after));
            steps = subst (λ l. length l ≤ 10000) (sym same) (steps_few s script.valid (log ++ group) (carried_steps s (log ++ group) script longer));
          };
        }

  start_reduced : reduced (beginning_records true b) ≡ begin_record b ∷ []
  unfolding is_added
  start_reduced = refl

  far_starts : IsFar (beginning_records true b)
  far_starts =
      let begun = carried_starts s in
      record {
        played = begun;
        near = record {
          run = as_run b (beginning_records true b) (runs_reduce.run true b (beginning_records true b) (carried_run s script (beginning_records true b) begun));
          later = [];
          is = start_reduced;
          near = none_near p true;
          steps = subst (λ l. length (begun_steps l) ≤ 10000) (sym start_reduced) (omega arith);
        };
      }

  pub carried_near : (log : List Record) → IsCarriedPlayed s log → IsNearRun b true (reduced log)
  carried_near log played = (by_carried s IsFar (λ before group far comes within. far_more before far group comes within) far_starts log played).near
