use Rattle.std.proofs.Common.{◌∙◌, length, ap, eqb-true, sym}
use Rattle.tap_engine.specs.Kinds.{begun_indices}
use Rattle.tap_engine.proofs.Indices.{steps_are}
use Rattle.tap_test_runs.proofs.Lasts.{begun_plain}
use Rattle.tap_test_runs.proofs.world.have_begun.Goals as goal

pub returns : goal.returns
returns c = λ so.
    sym (eqb-true c.steps_begun.result c.args.steps so) ∙ c.steps_begun.ensures
    ∙ ap (λ l. length (begun_indices l)) c.as_slice.ensures ∙ sym (ap length (begun_plain c.log.result.now.records))
    ∙ ap (λ l. length (begun_indices l)) c.log.ensures.reduced ∙ sym (steps_are c.args.world.now.log)
