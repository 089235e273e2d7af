use Rattle.std.proofs.Common.{◌≡◌, ◌+◌, ◌<◌, ◌≤◌, false, Some, length, refl, ap, sym, subst, ◌∙◌, arith}
use Rattle.std.specs.Prelude.{slice_get}
use Rattle.tap_scenario.specs.Step.{IsStep}
use Rattle.tap_salt.specs.Salt.{is_salted}
use Rattle.tap_engine.specs.Outcome.{IsNextIndex, WorldAnswersAs}
use Rattle.tap_root_sets.specs.AskedRoots.{AnswersRootSet, MayAsk}
use Rattle.tap_lawful.specs.Next.{begun_count}
use Rattle.tap_lawful.proofs.CarriedTurns.{root_set_salted}
use Rattle.tap_replay.specs.StepCalls.{run_outcome}
use Rattle.tap_replay.proofs.Adding.{nothing_adds, root_set_adds, step_adds}
use Rattle.tap_replay.proofs.Roots.{no_root_set}
use Rattle.tap_replay.proofs.Running.{all_at, may_ask, may_go_on, may_run, next_index, plain_run}
use Rattle.tap_replay.proofs.run.Run.add_step.Goals as goal

-- ---- no step is left

pub returns-then-place-step_count : goal.returns-then-place-step_count
returns-then-place-step_count c =
    let s = c.args.scenario.now in
    let run = c.args.self.now in
    let begun = c.requires.run.begun in
    let count = c.step_count.ensures.value in
    let test = c.if-place-step_count.true in
    let past : length s.steps ≤ begun_count run.world.log = omega (arith, begun, count, test) in
    nothing_adds s run c.requires.run c.requires.none past

-- ---- a root set

pub root_set-requires-clause-may : goal.root_set-requires-clause-may
root_set-requires-clause-may c =
    let s = c.args.scenario.now in
    let w = c.args.self.now.world in
    subst (λ p. MayAsk p w) (sym c.settings.ensures.value) (may_ask s c.requires.run.valid w c.requires.run.goes_on)

pub root_set-requires-clause-goes_on : goal.root_set-requires-clause-goes_on
root_set-requires-clause-goes_on c = may_go_on c.args.scenario.now c.requires.run.valid c.args.self.now.world c.requires.run.goes_on

pub root_set-requires-clause-next : goal.root_set-requires-clause-next
root_set-requires-clause-next c =
    let s = c.args.scenario.now in
    let w = c.args.self.now.world in
    let begun = c.requires.run.begun in
    let count = c.step_count.ensures.value in
    let test = c.if-place-step_count.false in
    let left : begun_count w.log < length s.steps = omega (arith, begun, count, test) in
    subst (λ n. IsNextIndex w (n + 1)) (sym begun)
    (next_index s w c.requires.run.valid (plain_run s c.requires.run.valid w c.requires.run.goes_on) left)

pub root_set-requires-clause-salted : goal.root_set-requires-clause-salted
root_set-requires-clause-salted c =
    let s = c.args.scenario.now in
    let step = c.step_at-step.result in
    let is : IsStep s.settings s.carrier step =
    all_at (IsStep s.settings s.carrier) s.steps c.args.self.now.begun step c.requires.run.valid.steps c.step_at-step.ensures.value in
    ap is_salted c.settings.ensures.value
    ∙ root_set_salted s.settings s.carrier c.in-RootSet.object c.in-RootSet.asker (subst (IsStep s.settings s.carrier) c.in-RootSet.is is)

pub returns-in-RootSet : goal.returns-in-RootSet
returns-in-RootSet c =
    let s = c.args.scenario.now in
    let w = c.args.self.now.world in
    let begun = c.requires.run.begun in
    let step = c.step_at-step.result in
    root_set_adds s c.args.self.now _ c.requires.run step c.requires.none (subst (λ n. slice_get s.steps n ≡ Some step) begun c.step_at-step.ensures.value)
    refl c.of-self.ensures c.in-RootSet.object c.in-RootSet.asker c.root_set.result c.in-RootSet.is
    (subst (λ p. AnswersRootSet p (begun_count w.log + 1) c.in-RootSet.object c.in-RootSet.asker w c.root_set.result c.root_set.new.world)
    c.settings.ensures.value
    (subst (λ n. AnswersRootSet c.settings.result (n + 1) c.in-RootSet.object c.in-RootSet.asker w c.root_set.result c.root_set.new.world) begun
    c.root_set.ensures))

-- ---- another step

pub run_step-requires-clause-may : goal.run_step-requires-clause-may
run_step-requires-clause-may c = may_run c.args.scenario.now c.requires.run.valid c.args.self.now.world c.requires.run.goes_on

pub run_step-requires-clause-next : goal.run_step-requires-clause-next
run_step-requires-clause-next c =
    let s = c.args.scenario.now in
    let w = c.args.self.now.world in
    let begun = c.requires.run.begun in
    let count = c.step_count.ensures.value in
    let test = c.if-place-step_count.false in
    let left : begun_count w.log < length s.steps = omega (arith, begun, count, test) in
    subst (λ n. IsNextIndex w (n + 1)) (sym begun)
    (next_index s w c.requires.run.valid (plain_run s c.requires.run.valid w c.requires.run.goes_on) left)

pub run_step-requires-clause-played : goal.run_step-requires-clause-played
run_step-requires-clause-played c = no_root_set c.step_at-step.result c.in_default.not-RootSet

pub run_step-requires-clause-names : goal.run_step-requires-clause-names
run_step-requires-clause-names c =
    let s = c.args.scenario.now in
    let is : IsStep s.settings s.carrier c.step_at-step.result =
    all_at (IsStep s.settings s.carrier) s.steps c.args.self.now.begun c.step_at-step.result c.step_at-step.ensures.valid.steps
    c.step_at-step.ensures.value in
    subst (λ b. IsStep b.settings false c.step_at-step.result) (sym c.requires.run.goes_on.beginning)
    (subst (λ carrier. IsStep s.settings carrier c.step_at-step.result) c.requires.uncarried is)

pub returns : goal.returns
returns c =
    let s = c.args.scenario.now in
    let before = c.args.self.now in
    let w = before.world in
    let step = c.step_at-step.result in
    let begun = c.requires.run.begun in
    step_adds s before _ c.requires.run step c.requires.none
    (subst (λ n. slice_get s.steps n ≡ Some step) begun c.step_at-step.ensures.value) refl c.of-self.ensures c.run_step.result
    c.requires.within (no_root_set step c.in_default.not-RootSet)
    (subst (λ n. WorldAnswersAs (run_outcome w (n + 1) step) w c.run_step.result c.run_step.new.world) begun c.run_step.ensures)
