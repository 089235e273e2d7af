use Rattle.std.proofs.Common.{subst}
use Rattle.tap_name.specs.Word.{IsWord}
use Rattle.tap_scenario.specs.Word.{IsWord-kept}
use Rattle.tap_scenario.proofs.cast.Word.as_slice.Goals as goal

pub returns-clause-valid : goal.returns-clause-valid
returns-clause-valid c = subst IsWord c.self.view_is (IsWord-kept c.self.inside.bytes c.self.inside.len c.self.invariant)
