use Rattle.std.proofs.Common.{◌≡◌, ◌∙◌, ap}
use Rattle.tap_scenario.specs.Step.{step_of_text, step_of_words}
use Rattle.tap_scenario.proofs.StepTexts.{step_of_text-exact}
use Rattle.tap_scenario.proofs.step.read_step.Goals as goal

pub returns-clause-exact : goal.returns-clause-exact
returns-clause-exact c = λ step.
    let read : c.step_of_words.result ≡ step_of_text c.args.settings.now c.args.carrier c.args.text.now =
    c.step_of_words.ensures ∙ ap (step_of_words c.args.settings.now c.args.carrier) c.of.ensures in
    rw read (step_of_text-exact c.args.settings.now c.args.carrier c.args.text.now step c.base-base.ensures.valid.base_to)
