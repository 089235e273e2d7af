use Rattle.std.proofs.Common.{◌∙◌, ap}
use Rattle.tap_history.specs.Moments.{outstanding}
use Rattle.tap_engine.specs.Places.{last_place}
use Rattle.tap_engine.specs.World.{WorldValue}
use Rattle.tap_world.proofs.Places.{last_is}
use Rattle.tap_world.proofs.world.World.newest.Goals as goal

pub returns : goal.returns
returns c =
    c.newest.ensures ∙ last_is (outstanding c.self.inside.engine.ledger.records)
    ∙ ap (λ (w : WorldValue). last_place (outstanding w.log)) c.self.view_is
