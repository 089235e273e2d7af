use Rattle.std.proofs.Common.{◌≡◌, ◌+◌, true, Some, refl, ap, subst, ◌∙◌, sym}
use Rattle.std.specs.Prelude.{slice_get}
use Rattle.tap_scenario.specs.Step.{IsStep}
use Rattle.tap_engine.specs.Kinds.{damages, observes}
use Rattle.tap_history.specs.StepAsks.{is_start}
use Rattle.tap_replay.specs.StepCalls.{IsCallOf}
use Rattle.tap_replay.proofs.CarriedRunning.{never_damages, observation_chooses_nothing, other_adds, start_chooses_nothing}
use Rattle.tap_replay.proofs.Running.{all_at}
use Rattle.tap_replay.proofs.carried_run.CarriedRun.add_step.Goals as goal
use Rattle.tap_replay.proofs.CarriedSteps.{ChoosesNothing, other_chooses, root_set_chooses}
use Rattle.tap_replay.proofs.Roots.{no_root_set}

pub unreachable-requires : goal.unreachable-requires
unreachable-requires c =
    let s = c.args.scenario.now in
    let step = c.step_at-step.result in
    let is : IsStep s.settings s.carrier step =
    all_at (IsStep s.settings s.carrier) s.steps c.args.self.now.begun step c.step_at-step.ensures.valid.steps c.step_at-step.ensures.value in
    let damaging : damages step ≡ true =
    subst (IsCallOf step) (c.in-Some-Garble.is ∙ ap Some c.in-Some-Garble.field-0-is) c.call_of.ensures in
    never_damages s.settings step (subst (λ carrier. IsStep s.settings carrier step) c.requires.run.carries.script.carried is) damaging

pub root_set-requires-clause-next : goal.root_set-requires-clause-next
root_set-requires-clause-next c =
    let s = c.args.scenario.now in
    let step = c.step_at-step.result in
    let begun = c.requires.run.begun in
    record {
      none = c.requires.none;
      step_is = subst (λ n. slice_get s.steps n ≡ Some step) begun c.step_at-step.ensures.value ∙ ap Some c.in-RootSet.is;
      index_is = ap (λ n. n + 1) begun;
    }

pub returns-in-RootSet : goal.returns-in-RootSet
returns-in-RootSet c =
    let s = c.args.scenario.now in
    let run = c.args.self.now in
    let step = c.step_at-step.result in
    let begun = c.requires.run.begun in
    other_adds s run _ c.requires.run.carries step c.requires.none (subst (λ n. slice_get s.steps n ≡ Some step) begun c.step_at-step.ensures.value)
    (ap (λ n. n + 1) begun)
    (subst ChoosesNothing (sym c.in-RootSet.is) (root_set_chooses c.in-RootSet.object c.in-RootSet.asker)) refl refl c.root_set.result
    c.root_set.ensures

pub choose-requires-clause-played : goal.choose-requires-clause-played
choose-requires-clause-played c = no_root_set c.step_at-step.result c.in_default.not-RootSet

pub returns-in-Some-Start : goal.returns-in-Some-Start
returns-in-Some-Start c =
    let s = c.args.scenario.now in
    let run = c.args.self.now in
    let step = c.step_at-step.result in
    let begun = c.requires.run.begun in
    let starts : is_start step ≡ true = subst (IsCallOf step) (c.in-Some-Start.is ∙ ap Some c.in-Some-Start.field-0-is) c.call_of.ensures in
    other_adds s run _ c.requires.run.carries step c.requires.none (subst (λ n. slice_get s.steps n ≡ Some step) begun c.step_at-step.ensures.value)
    (ap (λ n. n + 1) begun) (other_chooses step (start_chooses_nothing step starts)) refl refl c.start.result c.start.ensures

pub returns-in-Some-Observe : goal.returns-in-Some-Observe
returns-in-Some-Observe c =
    let s = c.args.scenario.now in
    let run = c.args.self.now in
    let step = c.step_at-step.result in
    let begun = c.requires.run.begun in
    let sees : observes step ≡ true = subst (IsCallOf step) (c.in-Some-Observe.is ∙ ap Some c.in-Some-Observe.field-0-is) c.call_of.ensures in
    other_adds s run _ c.requires.run.carries step c.requires.none (subst (λ n. slice_get s.steps n ≡ Some step) begun c.step_at-step.ensures.value)
    (ap (λ n. n + 1) begun) (other_chooses step (observation_chooses_nothing step sees)) refl refl c.observe.result c.observe.ensures
