-- The reduced log of a run that isn't carried: its records have their shape, but for some numbers.
use Rattle.std.proofs.Common.{◌≡◌, inl, inr, ◌+◌, ◌≤◌, false, List, [], ◌∷◌, ◌++◌, length, take, Some, refl, sym, subst, ap, arith}
use Rattle.std.proofs.lemmas.List.{length-take}
use Rattle.tap_scenario.specs.declared.step.Step.{Step}
use Rattle.tap_scenario.specs.Scenario.{IsScript, ScenarioValue}
use Rattle.tap_scenario.specs.Step.{IsStep}
use Rattle.tap_log.specs.declared.record.Record.{Record}
use Rattle.tap_log.specs.declared.record.Record.TheVariants.{Step as StepRecord, Taken}
use Rattle.tap_log.specs.Counts.{sent_count}
use Rattle.tap_log.specs.Log.{begun_steps}
use Rattle.tap_runs.specs.Beginning.{Beginning, begin_record}
use Rattle.tap_runs.specs.Course.{Follows, system_of}
use Rattle.tap_runs.specs.Group.{step_records, taken_records}
use Rattle.tap_lawful.specs.Lawful.{ComesNext, IsPlayed}
use Rattle.tap_lawful.specs.Next.{beginning_in, begun_count, next_step}
use Rattle.tap_lawful.proofs.BegunSteps.{played_steps}
use Rattle.tap_lawful.proofs.CarriedTurns.{next_is_step}
use Rattle.tap_lawful.proofs.Coming.{BeginsNext, TakesDue, comes_follows, coming}
use Rattle.tap_lawful.proofs.Played.{by_coming, played_more, played_starts, sent_no_fewer}
use Rattle.tap_safe_runs.specs.Safe.{IsRun}
use Rattle.tap_safe_runs.proofs.Lawful.{lawful_logs_are_safe}
use Rattle.tap_shape.specs.Shape.{IsShaped}
use Rattle.tap_lawful_shapes.proofs.Groups.{IsLow, IsNearRun, step_near, taken_near}
use Rattle.tap_lawful_shapes.proofs.Near.{AreNear, IsNear, both_near, more_near, none_near}
use Rattle.tap_lawful_shapes.proofs.Refused.{none_so, none_uncarried}

-- ---- the step that is next

module _ (s : ScenarioValue) (valid : IsScript s) (log : List Record) (steps : begun_steps log ≡ take (begun_count log) s.steps) where
  pub steps_few : length (begun_steps log) ≤ 10000
  steps_few =
      let same = ap length steps in
      let size = length-take (begun_count log) s.steps in
      let few = valid.steps_to in
      omega (arith, same, size, few)

  pub next_low : IsLow (begun_count log + 1)
  next_low = let few = steps_few in omega (arith, few)

pub next_fits : (s : ScenarioValue) → IsScript s → (log : List Record) (step : Step) → next_step s log ≡ Some step
    → IsStep s.settings s.carrier step
next_fits s valid log step at = next_is_step (IsStep s.settings s.carrier) s.steps (begun_count log) step valid.steps at

-- ---- one more group

module _ (s : ScenarioValue) (valid : IsScript s) (uncarried : s.carrier ≡ false) where
  abbrev b : Beginning
  b = beginning_in s

  -- the log of a run without roots, however far it has come
  record IsFar (log : List Record) : Type 0 where
    played : IsPlayed s log
    near : IsNearRun b false log

  module _ (log : List Record) (far : IsFar log) where
    begun_near : (group : List Record) (begins : BeginsNext s log group) → Follows b log group → IsRun b (log ++ group)
        → AreNear s.settings false group
    unfolding IsNear IsShaped
    begun_near group begins follows after =
        let steps = played_steps s log far.played in
        let index = begun_count log + 1 in
        let low = next_low s valid log steps in
        let fits = subst (λ c. IsStep s.settings c begins.step) uncarried (next_fits s valid log begins.step begins.next) in
        let items = step_records s.settings log (system_of log) index begins.step in
        subst (AreNear s.settings false) begins.is
        (more_near s.settings false (StepRecord index begins.step) items (low, fits)
        (step_near b false log far.near index begins.step low fits
        (none_so s.settings log begins.step (none_uncarried s.settings log begins.step fits))
        (subst (Follows b log) (sym begins.is) follows) (subst (λ g. IsRun b (log ++ g)) (sym begins.is) after)))

    takes_near : (group : List Record) (takes : TakesDue s log group) → Follows b log group → IsRun b (log ++ group)
        → AreNear s.settings false group
    unfolding IsNear IsShaped
    takes_near group takes follows after =
        subst (AreNear s.settings false) takes.is
        (more_near s.settings false (Taken takes.number) (taken_records s.settings log (system_of log) takes.number) tt
        (taken_near b false log far.near takes.number (subst (Follows b log) (sym takes.is) follows)
        (subst (λ g. IsRun b (log ++ g)) (sym takes.is) after)))

    far_more : (group : List Record) → ComesNext s log group → sent_count (log ++ group) ≤ s.frames → IsFar (log ++ group)
    far_more group comes within =
        let longer = played_more s log group far.played comes within in
        let after = lawful_logs_are_safe.runs s (log ++ group) valid longer in
        let follows = comes_follows s log group comes within in
        let more : AreNear s.settings false group =
        elim (coming s log group comes) [
          | inl takes ↦ takes_near group takes follows after
          | inr begins ↦ begun_near group begins follows after
        ] in
        record {
          played = longer;
          near = record {
            run = after;
            later = far.near.later ++ group;
            is = ap (λ l. l ++ group) far.near.is;
            near = both_near s.settings false far.near.later group far.near.near more;
            steps = steps_few s valid (log ++ group) (played_steps s (log ++ group) longer);
          };
        }

  far_starts : IsFar (begin_record b ∷ [])
  far_starts =
      let begun = played_starts s in
      record {
        played = begun;
        near = record {
          run = lawful_logs_are_safe.runs s (begin_record b ∷ []) valid begun;
          later = [];
          is = refl;
          near = none_near s.settings false;
          steps = omega arith;
        };
      }

  far_grows : (log group : List Record) → (sent_count log ≤ s.frames → IsFar log) → ComesNext s log group → sent_count (log ++ group) ≤ s.frames
      → IsFar (log ++ group)
  far_grows log group before comes within =
      let fewer = sent_no_fewer log group in far_more log (before (omega (arith, fewer, within))) group comes within

  pub uncarried_near : (log : List Record) → IsPlayed s log → IsNearRun b false log
  uncarried_near log played =
      (by_coming s (λ l. sent_count l ≤ s.frames → IsFar l) far_grows (λ within. far_starts) log played played.within).near
