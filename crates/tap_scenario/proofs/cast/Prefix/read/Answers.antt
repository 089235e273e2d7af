use Rattle.tap_scenario.proofs.Casts.{prefix_of_word-exact}
use Rattle.tap_scenario.proofs.cast.Prefix.read.Goals as goal

pub returns-clause-exact : goal.returns-clause-exact
returns-clause-exact c = λ prefix.
    rw c.spelled.ensures (prefix_of_word-exact c.args.settings.now c.args.text.now prefix c.base-base.ensures.valid.base_to)
