use Rattle.std.proofs.Common.{◌∙◌, ap}
use Rattle.tap_engine.specs.World.{whole_log}
use Rattle.tap_replay.specs.Player.{PlayerValue}
use Rattle.tap_replay.proofs.player.Player.log.Goals as goal

pub returns : goal.returns
returns c = c.log.ensures.records ∙ ap whole_log c.world.ensures ∙ ap (λ (p : PlayerValue). whole_log p.world) c.self.view_is
