use Rattle.std.proofs.Common.{subst, sym}
use Rattle.tap_scenario.specs.Scenario.{IsScript}
use Rattle.tap_make.proofs.Limits.{made_well}
use Rattle.tap_top.proofs.wanted.make_scenario.Goals as goal

pub returns-in-Ok-clause-valid : goal.returns-in-Ok-clause-valid
returns-in-Ok-clause-valid c =
    subst IsScript (sym c.in-Ok.ensures) (made_well c.args.joins c.args.seed c.requires.to).script
