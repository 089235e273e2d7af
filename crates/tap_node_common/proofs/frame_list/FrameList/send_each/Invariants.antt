use Rattle.std.proofs.Common.{◌≡◌, ◌++◌, drop, map}
use Rattle.tap_rule.specs.Reaction.{to_each}
use Rattle.tap_rule.specs.Sending.{message_frame}
use Rattle.tap_node_common.specs.Spellings.{HaveSpellings, spelled}
use Rattle.tap_node_common.proofs.frame_list.FrameList.send_each.Given as goal

abbrev pub invariant-loop-name : goal.invariant-loop-name
invariant-loop-name l = record {
  sender : l.frame.from ≡ l.from;
  body : l.frame.body ≡ l.fn.body;
  sent : l.self ++ spelled l.settings (map (message_frame l.from) (to_each l.fn.body (drop l.name-index l.name-items)))
      ≡ l.fn.self ++ spelled l.settings (map (message_frame l.from) (to_each l.fn.body l.names));
  left : HaveSpellings l.settings (map (message_frame l.from) (to_each l.fn.body (drop l.name-index l.name-items)));
}
