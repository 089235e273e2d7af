use Rattle.std.proofs.Common.{[]}
use Rattle.std.proofs.lemmas.List.Elements.{All-head}
use Rattle.tap_wire.specs.Spelling.{IsFrame}
use Rattle.tap_rule.specs.Reaction.{message}
use Rattle.tap_rule.specs.Sending.{message_frame}
use Rattle.tap_node_common.proofs.frame_list.FrameList.send.Goals as goal

pub push-requires : goal.push-requires
push-requires c =
    All-head (IsFrame c.args.settings.now) (message_frame c.args.from.now (message c.args.to.now c.args.body)) [] c.requires
