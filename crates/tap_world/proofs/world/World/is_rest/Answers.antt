use Rattle.std.proofs.Common.{◌∙◌, ap}
use Rattle.std.specs.Prelude.{◌==◌}
use Rattle.tap_history.specs.Moments.{outstanding}
use Rattle.tap_world.proofs.Places.{none_is}
use Rattle.tap_world.proofs.world.World.is_rest.Goals as goal

pub returns : goal.returns
returns c = ap (λ n. n == 0) c.outstanding.ensures ∙ none_is (outstanding c.args.self.now.log)
